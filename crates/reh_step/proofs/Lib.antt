pub mod MarkLaws
pub mod WalkLaws
pub mod CopyLaws
pub mod RollLaws
pub mod SealLaws
pub mod RecordLaws
