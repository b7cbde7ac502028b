pub mod EntryLaws
pub mod RangeTests
