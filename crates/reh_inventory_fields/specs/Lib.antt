pub mod Fields
pub mod Faults
pub mod Expected
pub mod Members
