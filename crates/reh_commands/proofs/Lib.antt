mod Numbers
mod Examples
pub mod WordLaws
pub mod ReportLaws
pub mod PrintLaws
