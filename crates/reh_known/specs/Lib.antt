pub mod Known
pub mod Texts
