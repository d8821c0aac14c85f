pub mod Examples
pub mod UploadLaws
pub mod WriteLaws
pub mod ListLaws
pub mod RestoreLaws
