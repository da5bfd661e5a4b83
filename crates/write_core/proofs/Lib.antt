pub mod AckLemmas
pub mod BucketLemmas
pub mod ChangeLemmas
pub mod CopyAnswers
pub mod CopyAsking
pub mod CopyEnds
pub mod CopyPlaces
pub mod CourseLemmas
pub mod DecidedLemmas
pub mod DeedLemmas
pub mod FirstOnLemmas
pub mod InsideLemmas
pub mod KeepsLemmas
pub mod KeptLemmas
pub mod LeafEventLemmas
pub mod LockLemmas
pub mod MeetLemmas
mod NotedLemmas
pub mod OpeningLemmas
pub mod RangeEventLemmas
pub mod ReplayLemmas
pub mod RetireLemmas
pub mod RoundLemmas
pub mod StageLemmas
pub mod StepLemmas
pub mod SwitchLemmas
mod UnavailableLemmas
pub mod ViewLemmas
