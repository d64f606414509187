pub mod ByKind
pub mod Filing
