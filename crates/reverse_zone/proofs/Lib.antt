pub mod Cuts
pub mod Labels
pub mod HostBytes
pub mod LineWords
pub mod Pairings
pub mod Readback
pub mod Bares
pub mod ZoneOrder
