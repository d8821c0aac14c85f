pub mod PackFileLaws
