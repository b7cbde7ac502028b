pub mod Fields
pub mod Faults
pub mod Members
pub mod Names
