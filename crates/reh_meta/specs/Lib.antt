pub mod Faults
pub mod LedgerMeta
pub mod Same
