pub mod Inventories
pub mod Objects
pub mod Scripts
