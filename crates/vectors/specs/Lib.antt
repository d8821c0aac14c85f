pub mod Vectors
pub mod Claims
pub mod VectorsLaws
pub mod Steps
