pub mod BlockShading
pub mod FragmentsLaws
pub mod HeadLaws
pub mod Steps
