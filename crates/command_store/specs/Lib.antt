pub mod Outside
pub mod FaultWords
pub mod Opening
