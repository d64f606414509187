pub mod Keeping
pub mod Memory
pub mod Opener
pub mod Stored
