pub mod Unique
pub mod Told
pub mod Ranged
pub mod Recording
pub mod Written
