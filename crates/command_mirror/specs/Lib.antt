pub mod Readers
pub mod Together
pub mod Lanes
pub mod Ran
pub mod Mirror
