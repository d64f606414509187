pub mod Files
pub mod Import
pub mod Making
pub mod Export
pub mod Report
