pub mod BalanceLaws
pub mod GainLaws
pub mod RunLaws
pub mod WholeLaws
