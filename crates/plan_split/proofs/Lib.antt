pub mod FetchLemmas
pub mod FitLemmas
pub mod HintLemmas
pub mod JoinedLemmas
pub mod LinkLemmas
mod MeetingLemmas
pub mod NamedBuckets
pub mod PartLemmas
pub mod PlanBuckets
pub mod PredicateLemmas
