-- Facts that the functions' proofs share, and closed runs of the definition.
mod Answers
mod Examples
pub mod ShadeLaws
pub mod AlphaLaws
