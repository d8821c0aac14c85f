pub mod Forms
pub mod Lighting
pub mod Claims
