pub mod Boards
pub mod Tallies
