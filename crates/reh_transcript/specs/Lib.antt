pub mod Hand
pub mod Transcript
