pub mod Listened
pub mod Served
