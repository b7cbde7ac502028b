pub mod Fewest
pub mod Json
pub mod Losses
pub mod Near
pub mod Orders
pub mod Risk
pub mod Texts
pub mod Waves
