pub mod PieceLaws
pub mod Sources
pub mod SourcesLaws
