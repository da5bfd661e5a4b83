pub mod ListLemmas
pub mod HistoryLemmas
pub mod SumLemmas
pub mod RuleLemmas
pub mod PurseLemmas
pub mod KeepLemmas
pub mod PartLemmas
pub mod AppendLemmas
pub mod PlayLemmas
pub mod FirstLemmas
pub mod DealLemmas
pub mod CallLemmas
mod CountLemmas
