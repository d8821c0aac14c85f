pub mod Capture
pub mod Steps
pub mod RunLaws
pub mod RefusalLaws
