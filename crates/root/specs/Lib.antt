pub mod Root
pub mod RootLaws
pub mod UnitLaws
pub mod Steps
pub mod Closest
