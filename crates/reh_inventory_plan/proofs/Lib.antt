pub mod PlannerLaws
pub mod ObjectLaws
