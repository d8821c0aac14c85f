pub mod Printing
pub mod Steps
pub mod DecimalLaws
pub mod WritingLaws
pub mod TextLaws
pub mod AddedLaws
