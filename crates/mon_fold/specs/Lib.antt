pub mod CountsSoFar
pub mod FoldLaws
pub mod GroupKeys
pub mod GrowingTotals
pub mod Mergings
pub mod PartialGroups
pub mod SlidingWindows
