pub mod Windows
pub mod Members
