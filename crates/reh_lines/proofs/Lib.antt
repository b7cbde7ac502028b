pub mod LinesLemmas
pub mod EndedLaws
pub mod Parts
pub mod ScriptLaws
pub mod Gathering
pub mod ReadingOn
pub mod HeadLaws
pub mod Standing
