pub mod Children
pub mod Claimed
pub mod Hosts
pub mod PlaceDigits
