pub mod Held
pub mod Counts
pub mod Planned
pub mod Beside
