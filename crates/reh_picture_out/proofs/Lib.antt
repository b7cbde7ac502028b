pub mod Lists
pub mod Depths
pub mod NamesLaws
pub mod LedgerLaws
pub mod RangeLaws
pub mod HoldingLaws
pub mod PictureLaws
