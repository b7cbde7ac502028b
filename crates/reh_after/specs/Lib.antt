pub mod After
pub mod Faults
