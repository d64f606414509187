pub mod Examples
pub mod Placing
pub mod Taking
