pub mod Flat
pub mod Entries
pub mod Alone
pub mod Listed
