pub mod Unit
pub mod CacheWords
pub mod Meaning
pub mod Steps
pub mod HandOverLaws
pub mod DecodedLaws
