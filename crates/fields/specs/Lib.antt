pub mod Fields
pub mod Steps
pub mod QuotientLaws
pub mod UploadLaws
pub mod ColourLaws
pub mod FixedLaws
pub mod ShortFloatLaws
