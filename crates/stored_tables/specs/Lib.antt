pub mod Characters
pub mod Stored
pub mod Order
pub mod Reading
pub mod Opening
pub mod Migration
