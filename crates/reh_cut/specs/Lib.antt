pub mod Said
pub mod Ranges
pub mod Cuts
pub mod Chosen
pub mod Limits
pub mod Faults
pub mod Passed
