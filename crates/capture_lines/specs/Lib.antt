pub mod ChannelLaws
pub mod FormedLaws
pub mod Lines
pub mod LinesLaws
pub mod Steps
