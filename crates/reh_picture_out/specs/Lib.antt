pub mod Kept
pub mod Marks
pub mod Written
pub mod Ranges
pub mod Holdings
pub mod Unshown
