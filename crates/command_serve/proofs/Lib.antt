pub mod Served
pub mod Unserved
pub mod Generic
