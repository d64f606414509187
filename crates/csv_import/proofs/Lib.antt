pub mod FewRecords
pub mod Places
pub mod Readings
pub mod OneFile
