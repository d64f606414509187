pub mod Pieces
pub mod Fields
pub mod Claimed
pub mod Unique
pub mod Examples
pub mod FixedTexts
