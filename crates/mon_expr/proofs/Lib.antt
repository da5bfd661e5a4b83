mod BehindLemmas
mod ConditionLemmas
mod ExprLemmas
mod FindLemmas
mod GreedyLemmas
mod MatchLemmas
mod NextPlaces
pub mod NoValueLemmas
pub mod SameTreeLemmas
mod SumLemmas
mod SumSizeLemmas
mod TermLemmas
mod TurnLemmas
