mod ColumnNameLemmas
pub mod FaultLemmas
mod FixedLemmas
mod ItemLemmas
mod ListedLemmas
mod NamedPlaceLemmas
mod OperandLemmas
mod PredicateLemmas
mod TakenLemmas
