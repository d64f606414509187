pub mod Areas
pub mod Ids
