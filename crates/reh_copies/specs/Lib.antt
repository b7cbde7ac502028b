pub mod Alone
pub mod Numbered
