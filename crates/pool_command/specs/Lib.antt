pub mod About
pub mod Runs
pub mod Clauses
pub mod Exact
pub mod Program
pub mod Headline
pub mod Limits
