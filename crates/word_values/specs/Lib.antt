pub mod Values
pub mod Statuses
