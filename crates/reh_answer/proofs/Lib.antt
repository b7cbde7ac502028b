pub mod Lists
pub mod TextLaws
pub mod ObjectLaws
