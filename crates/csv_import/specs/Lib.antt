pub mod Columns
pub mod Cells
pub mod Rows
pub mod Files
pub mod Exports
pub mod Laws
