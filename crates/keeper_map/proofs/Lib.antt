pub mod CutBack
pub mod Few
pub mod Given
pub mod Grown
pub mod Stamps
pub mod JobLemmas
pub mod StoreLemmas
