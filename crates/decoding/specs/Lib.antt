pub mod Registers
pub mod Read
pub mod Claims
pub mod Steps
pub mod ComparingLaws
