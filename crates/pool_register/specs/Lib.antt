pub mod Kept
pub mod Opened
pub mod Planned
pub mod Stops
