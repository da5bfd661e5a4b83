pub mod NumberLemmas
pub mod OrderedLemmas
