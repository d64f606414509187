mod Counts
mod Rows
mod Lanes
mod Entries
mod Spanned
mod Covered
mod Pieced
