pub mod Routes
pub mod Stems
pub mod Listing
pub mod Requests
pub mod Answers
pub mod Laws
