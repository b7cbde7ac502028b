pub mod CountLaws
pub mod FourLaws
pub mod MaskLaws
pub mod RoundLaws
pub mod WordLaws
