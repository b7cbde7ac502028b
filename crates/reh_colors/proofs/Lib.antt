pub mod CodeLaws
pub mod LineLaws
