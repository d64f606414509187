pub mod Lists
pub mod Steps
pub mod Styles
pub mod Reading
pub mod Forms
pub mod Routes
pub mod Choices
pub mod Entries
