pub mod Areas
pub mod Unique
