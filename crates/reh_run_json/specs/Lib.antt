pub mod Values
pub mod Changes
pub mod Fragments
pub mod Reports
pub mod Lines
