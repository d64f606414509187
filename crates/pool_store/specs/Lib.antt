pub mod FaultWords
pub mod Opening
pub mod Meaning
