pub mod Lines
pub mod Streams
pub mod Readings
pub mod Heads
