pub mod Hired
pub mod History
