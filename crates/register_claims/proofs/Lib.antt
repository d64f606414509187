mod Pieces
pub mod Counted
pub mod Claiming
mod HostTests
mod HostSpans
mod HostLists
mod HostClaims
pub mod OneOrder
pub mod PlaceNumbers
pub mod SurveyFigures
pub mod Surveyed
