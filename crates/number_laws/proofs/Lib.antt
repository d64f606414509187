pub mod Stays
pub mod Meetings
pub mod Made
pub mod Least
pub mod Recorded
pub mod Edited
