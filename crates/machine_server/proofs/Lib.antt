pub mod Beside
pub mod Dismissed
pub mod Popped
pub mod Hired
pub mod Worked
pub mod Closed
pub mod Numbers
