pub mod Blocks
pub mod Costs
pub mod Jobs
pub mod Places
pub mod Posts
pub mod Sources
pub mod Surveys
