pub mod Clocks
pub mod Rises
pub mod Told
pub mod Waiting
