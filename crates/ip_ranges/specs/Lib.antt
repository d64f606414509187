pub mod Spans
pub mod Tracks
pub mod Pieces
