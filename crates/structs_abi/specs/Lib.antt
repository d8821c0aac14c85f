pub mod Composed
pub mod ComposedLaws
pub mod HandOvers
