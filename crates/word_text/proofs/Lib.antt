pub mod Examples
pub mod Places
