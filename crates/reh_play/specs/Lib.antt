pub mod Faults
pub mod Players
pub mod Plays
pub mod Turns
pub mod DeskPlays
