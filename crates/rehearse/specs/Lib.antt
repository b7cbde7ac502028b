pub mod Checks
pub mod Colors
pub mod Endings
pub mod Helps
pub mod Plans
pub mod Runs
pub mod Cuts
pub mod InventoryPlans
