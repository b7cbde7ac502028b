pub mod Faults
pub mod BookPlays
pub mod Openings
pub mod Pipes
pub mod Runs
pub mod Changes
pub mod Printed
pub mod AsJson
