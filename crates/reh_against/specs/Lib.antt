pub mod Causes
pub mod Weighed
pub mod Weights
pub mod Worst
