pub mod Ledgers
pub mod Lints
pub mod Unknown
