pub mod Values
pub mod Asked
pub mod Matching
