pub mod Marks
pub mod Places
pub mod Records
