pub mod Ending
pub mod Printed
