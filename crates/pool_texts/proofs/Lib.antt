pub mod Loaded
pub mod Printing
