pub mod CandidateLaws
pub mod NearestLaws
pub mod RowLaws
