mod BoundLemmas
mod FaultLemmas
pub mod FieldNameLemmas
pub mod NamedEntriesLemmas
pub mod NamedLemmas
mod ZipLemmas
