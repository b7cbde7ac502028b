pub mod CountedLaws
pub mod LineLaws
pub mod PassLaws
