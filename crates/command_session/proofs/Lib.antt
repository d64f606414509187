pub mod Sessions
pub mod Refused
pub mod Beside
pub mod Generic
