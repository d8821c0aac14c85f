pub mod OrLaws
pub mod Steps
