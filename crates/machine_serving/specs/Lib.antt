pub mod Begun
pub mod Finished
pub mod Limits
pub mod Serve
pub mod Views
