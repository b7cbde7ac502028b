pub mod Ranges
pub mod Passing
pub mod Changes
pub mod Fragments
pub mod Told
