mod BehindLemmas
pub mod BucketLemmas
mod EntryLemmas
pub mod FollowLemmas
mod FromBehindLemmas
mod GuessLemmas
mod KeptEntryLemmas
mod KeptStepLemmas
mod RunLemmas
mod KnownLemmas
mod ReplicaLemmas
mod SeriesNumberLemmas
mod StateLemmas
mod StepLemmas
