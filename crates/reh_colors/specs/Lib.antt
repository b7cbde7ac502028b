pub mod Choices
pub mod Shades
