pub mod TranscriptExamples
