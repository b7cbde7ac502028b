pub mod Asked
pub mod Requests
pub mod Styles
