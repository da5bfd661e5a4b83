pub mod PlacedLemmas
pub mod SeriesLemmas
