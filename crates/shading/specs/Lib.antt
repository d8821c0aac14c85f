pub mod Shade
pub mod Steps
