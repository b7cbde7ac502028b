pub mod Lines
pub mod Passes
pub mod Counted
pub mod Named
pub mod AddedLaws
