pub mod PlaceLaws
pub mod RangeLaws
