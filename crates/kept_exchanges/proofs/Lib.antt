pub mod ApartLemmas
pub mod PairLemmas
pub mod WriteLemmas
pub mod FlowLemmas
pub mod TradeLemmas
