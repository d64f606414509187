pub mod Lists
pub mod Ahead
