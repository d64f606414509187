pub mod Shown
pub mod Sets
