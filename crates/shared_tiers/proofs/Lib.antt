pub mod CallLemmas
pub mod ExactLemmas
