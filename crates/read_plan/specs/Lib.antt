pub mod Ends
pub mod Held
pub mod Keeping
pub mod PlanView
pub mod Readings
pub mod Runs
pub mod Standings
