pub mod FaultLemmas
pub mod Placing
pub mod Searching
pub mod Paths
