pub mod Accepted
pub mod Faultless
pub mod Looking
