mod AllTextLemmas
mod CountsOfLemmas
mod FieldsReadLemmas
mod KeyReadLemmas
pub mod LeftLemmas
pub mod OptionFilterLemmas
pub mod ReadFitsLemmas
mod RecordsLemmas
mod SpellsKeyLemmas
