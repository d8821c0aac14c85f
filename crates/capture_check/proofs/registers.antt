pub mod ByKind
pub mod Pairs
