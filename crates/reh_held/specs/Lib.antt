pub mod Kept
pub mod Rows
pub mod RowTurns
pub mod Tables
pub mod Turns
pub mod Values
