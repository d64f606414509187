pub mod Net
pub mod Blocks
pub mod Text
pub mod Fault
pub mod Free
pub mod Count
pub mod Fewest
