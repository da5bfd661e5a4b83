pub mod BoundPredicates
pub mod BoundSums
pub mod ConditionLists
pub mod Greedy
pub mod SameTrees
pub mod SumTerms
