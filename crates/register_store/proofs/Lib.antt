pub mod Refused
pub mod Plainly
