pub mod Writing
pub mod Drilled
pub mod Started
