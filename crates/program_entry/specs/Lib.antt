pub mod Ending
pub mod About
