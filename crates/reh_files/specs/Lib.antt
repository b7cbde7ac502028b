pub mod Colors
pub mod Faults
pub mod Inputs
