pub mod Faults
pub mod Lines
pub mod Memory
pub mod Reading
pub mod Streams
pub mod Writing
pub mod Whole
