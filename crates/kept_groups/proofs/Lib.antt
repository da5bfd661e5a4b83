pub mod BucketLemmas
pub mod ChangeLemmas
pub mod LoopLemmas
pub mod OrderLemmas
pub mod PlaceLemmas
pub mod ToldLemmas
pub mod TradeLemmas
pub mod GroupLemmas
