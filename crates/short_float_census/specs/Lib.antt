pub mod Census
pub mod Claims
pub mod Steps
pub mod PatternLaws
pub mod CensusLaws
pub mod FloatClassLaws
