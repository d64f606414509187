pub mod Later
pub mod Numbers
