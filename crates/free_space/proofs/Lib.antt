pub mod Backs
pub mod Ends
pub mod Examples
pub mod Listing
pub mod Passing
pub mod Pieces
pub mod Searching
pub mod Singles
