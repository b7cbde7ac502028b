pub mod FindingLaws
pub mod MissingLaws
pub mod PlaceLaws
