pub mod StripingLaws
pub mod ClipLaws
pub mod MemberLaws
