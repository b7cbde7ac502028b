pub mod Balance
pub mod Gained
pub mod Shares
pub mod Surveys
pub mod Workers
