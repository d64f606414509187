pub mod Bodies
pub mod Edits
pub mod Records
pub mod Words
pub mod Rows
pub mod Pages
pub mod Replies
pub mod Laws
