pub mod AheadLemmas
pub mod FlowLemmas
pub mod SeenLemmas
pub mod TouchedLemmas
