pub mod FoundLaws
pub mod WeighLaws
pub mod WorstLaws
