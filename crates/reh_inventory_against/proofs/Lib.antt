pub mod FileLaws
pub mod RereadLaws
