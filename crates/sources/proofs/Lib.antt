mod Copies
pub mod WordsLaws
