mod Examples
pub mod PackedLaws
pub mod ReadLaws
pub mod AcceptedLaws
pub mod OffLaws
