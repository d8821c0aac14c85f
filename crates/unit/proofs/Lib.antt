pub mod MeaningLaws
pub mod LentLaws
pub mod FirstLaws
