pub mod Found
pub mod Unique
pub mod Help
pub mod Matches
