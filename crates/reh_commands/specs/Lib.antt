pub mod Script
pub mod Texts
pub mod Reports
pub mod Answers
pub mod Printed
pub mod Usage
