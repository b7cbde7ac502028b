mod Examples
pub mod RangeLaws
pub mod FragmentLaws
pub mod WordLaws
pub mod EntryLaws
pub mod ToldLaws
pub mod KeptLaws
