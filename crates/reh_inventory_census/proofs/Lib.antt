pub mod RangeLemmas
pub mod StopLaws
pub mod ShownLaws
pub mod NumberLemmas
pub mod OrderLemmas
pub mod CounterLaws
pub mod PartsLaws
pub mod CensusLaws
