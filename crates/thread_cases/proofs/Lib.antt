mod HistoryLemmas
pub mod PourLemmas
