pub mod EntryLemmas
pub mod HashLemmas
pub mod SeekLemmas
pub mod TreeLemmas
