pub mod LostLaws
pub mod MemberLaws
