pub mod Jobs
pub mod Lost
pub mod MapKeeper
pub mod OpenJobs
pub mod Plan
pub mod Store
pub mod StoreLaws
