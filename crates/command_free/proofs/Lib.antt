pub mod Readings
pub mod OneAnswer
pub mod Leaving
pub mod Runs
pub mod Fewest
