pub mod Transcripts
pub mod Ends
pub mod Piped
pub mod OpeningLaws
pub mod RunLaws
pub mod ChangeLaws
pub mod PrintedRuns
pub mod JsonRuns
