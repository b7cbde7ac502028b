pub mod Turns
pub mod Steps
pub mod Answered
pub mod ReadLaws
pub mod Enough
pub mod Sitting
pub mod EndLaws
