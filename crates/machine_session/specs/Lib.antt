pub mod Alone
pub mod InTurn
pub mod Owned
pub mod Protocols
pub mod Sessions
pub mod Told
pub mod Wanted
