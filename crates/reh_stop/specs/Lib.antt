pub mod Named
pub mod Rounds
pub mod Stops
pub mod Together
