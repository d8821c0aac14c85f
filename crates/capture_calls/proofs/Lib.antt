pub mod CallLaws
pub mod MachineLaws
pub mod PrintedLaws
pub mod AnswerLaws
