pub mod Found
pub mod Help
pub mod Plain
pub mod Unique
