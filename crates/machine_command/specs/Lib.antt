pub mod Openers
pub mod Outside
pub mod Session
