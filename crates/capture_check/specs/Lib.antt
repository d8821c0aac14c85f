pub mod Contents
pub mod ContentsLaws
pub mod Kinds
pub mod KindsLaws
pub mod Steps
pub mod StepsLaws
