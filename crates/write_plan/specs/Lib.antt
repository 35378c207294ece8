pub mod Committing
pub mod PlanLaws
pub mod Plans
pub mod PlanView
pub mod Stages
