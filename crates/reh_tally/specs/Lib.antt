pub mod Cursors
pub mod Few
pub mod Lines
pub mod Masks
pub mod Members
pub mod Segments
pub mod Stretches
