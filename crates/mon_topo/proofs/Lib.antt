mod BoundLemmas
mod FindsLemmas
mod KeptLemmas
pub mod LawfulLemmas
mod LeadingLemmas
mod NameTextLemmas
mod NumberedLemmas
mod PlaceLemmas
pub mod RangeNameLemmas
mod RepeatLemmas
mod ReplicaLemmas
pub mod SizeLemmas
mod SpanLemmas
pub mod FirstLemmas
pub mod FirstOpenings
pub mod FrontLemmas
pub mod HeldLemmas
pub mod HeldSteps
pub mod NameMapLemmas
pub mod PartLemmas
pub mod PositionLemmas
pub mod RangeHistoryLemmas
pub mod ServingLemmas
pub mod SharedZoneLemmas
pub mod SightLemmas
pub mod PlacedRangeLemmas
pub mod LeftLemmas
pub mod TurnsSinceLemmas
