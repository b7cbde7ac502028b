pub mod Files
pub mod Reread
