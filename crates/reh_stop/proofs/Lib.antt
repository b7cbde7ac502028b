mod FaultLaws
pub mod GatheredLaws
mod MostLaws
mod RackLaws
mod VerdictLaws
mod WordLaws
