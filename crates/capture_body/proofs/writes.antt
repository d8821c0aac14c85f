pub mod Answered
pub mod NextPair
