pub mod CopyLaws
pub mod JobLaws
pub mod PlaceLaws
pub mod PostLaws
pub mod ReadingLaws
pub mod RepeatLaws
pub mod SurveyLaws
pub mod WordLaws
