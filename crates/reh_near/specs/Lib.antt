pub mod Distance
pub mod Near
