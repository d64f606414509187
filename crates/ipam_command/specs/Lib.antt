pub mod Runs
pub mod Clauses
pub mod Limits
pub mod Program
pub mod Exact
pub mod Opened
pub mod Headlines
pub mod About
