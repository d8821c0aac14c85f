pub mod Examples
pub mod ReadLaws
pub mod LightLaws
pub mod LimitLaws
pub mod SameLaws
pub mod KeptLaws
pub mod DecodeLaws
pub mod FileLaws
