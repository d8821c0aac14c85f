pub mod Boundary
pub mod BytesLaws
pub mod ReaderLaws
pub mod Steps
