pub mod History
pub mod Following
pub mod Seen
pub mod Published
