pub mod FirstLemmas
pub mod SoundLemmas
