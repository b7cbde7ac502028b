pub mod TokenLaws
pub mod RangeLaws
pub mod FragmentLaws
pub mod WordLaws
pub mod ReportLaws
pub mod LineLaws
pub mod DepthLaws
pub mod ObjectLaws
