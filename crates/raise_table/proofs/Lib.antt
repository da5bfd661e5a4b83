pub mod WordLemmas
pub mod SeatLemmas
pub mod RaiseLemmas
pub mod StepLemmas
pub mod KnowsLemmas
pub mod OnceLemmas
