pub mod Facts
pub mod Texts
pub mod Objects
