pub mod Rows
pub mod Free
pub mod Claims
pub mod Histories
