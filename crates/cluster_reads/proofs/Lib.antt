pub mod TakenSteps
pub mod WholeReads
