pub mod Text
pub mod Load
