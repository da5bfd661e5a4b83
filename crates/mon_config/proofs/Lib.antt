mod DataInLemmas
pub mod Fronts
pub mod LimitLemmas
pub mod ListOfLemmas
mod NumberInLemmas
mod UnknownKeyLemmas
