pub mod Herds
pub mod Leads
pub mod Names
