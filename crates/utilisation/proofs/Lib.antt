pub mod Counted
pub mod Examples
pub mod Parts
pub mod Sizes
