pub mod Steps
pub mod ReadingsLaws
