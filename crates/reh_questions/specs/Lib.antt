pub mod Against
pub mod Endings
pub mod Inputs
pub mod Inventories
pub mod Mistaken
pub mod Names
pub mod Afters
