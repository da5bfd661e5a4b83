pub mod BucketSets
pub mod Covers
pub mod Formulas
pub mod Hints
pub mod Labels
pub mod Places
