mod ExplanationLemmas
pub mod FetchColumnLemmas
pub mod FixedLemmas
