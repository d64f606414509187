pub mod Histories
pub mod Claims
pub mod Records
pub mod Edits
