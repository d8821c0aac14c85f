pub mod Tables
pub mod GenerationLaws
pub mod RefusalLaws
