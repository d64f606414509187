pub mod Bounds
pub mod Fits
pub mod Examples
pub mod Frees
pub mod Given
pub mod Kept
pub mod Lists
pub mod StepLaws
