pub mod Entries
pub mod Room
