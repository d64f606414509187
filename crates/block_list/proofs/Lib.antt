pub mod Rising
pub mod Places
pub mod Candidates
pub mod Widening
pub mod Covering
pub mod Changes
pub mod Inner
pub mod Around
