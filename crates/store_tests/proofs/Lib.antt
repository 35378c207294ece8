pub mod ServesLemmas
pub mod SoundLemmas
