pub mod CommandLines
pub mod Faults
pub mod Numbers
pub mod WordExamples
