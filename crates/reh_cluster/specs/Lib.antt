pub mod Changes
pub mod Kept
pub mod Names
pub mod Parts
pub mod Runs
pub mod State
pub mod Same
