pub mod FourKept
pub mod Kept
pub mod Left
pub mod Masks
pub mod Words
