pub mod Passing
pub mod Lines
