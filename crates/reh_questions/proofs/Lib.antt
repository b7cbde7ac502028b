pub mod AgainstLaws
pub mod NameLaws
