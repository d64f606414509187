pub mod Ran
pub mod Unran
