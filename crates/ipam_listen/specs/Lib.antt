pub mod Back
pub mod Connections
pub mod ListLanes
pub mod ListListeners
pub mod Patience
pub mod Tcp
