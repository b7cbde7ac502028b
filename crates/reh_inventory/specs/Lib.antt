pub mod Heads
pub mod Contents
pub mod Ledgers
pub mod Lines
pub mod Inventories
