pub mod Steps
pub mod FormLaws
