pub mod MadeLemmas
pub mod LastLemmas
pub mod LinesLemmas
pub mod InventoryLemmas
