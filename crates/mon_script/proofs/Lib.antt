mod BlockLemmas
pub mod ControlLemmas
mod FollowLemmas
mod Fronts
mod LawfulLemmas
mod LineLemmas
pub mod MadeLemmas
pub mod MadePlaceLemmas
mod StandingLineLemmas
