pub mod Claims
pub mod Headline
pub mod Laws
