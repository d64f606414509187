pub mod Names
pub mod Listed
pub mod Paths
pub mod Adding
pub mod Routed
pub mod Unique
