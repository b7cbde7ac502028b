pub mod Faults
pub mod Drills
