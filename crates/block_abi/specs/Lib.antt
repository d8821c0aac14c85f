pub mod PackFile
pub mod FormNumber
