pub mod Cuts
pub mod Paths
