-- What only proofs read: what a query means over series, and how a tree is walked.
pub mod FetchViews
pub mod Items
pub mod KeyFilters
pub mod MetSeries
pub mod PartsToCome
pub mod Paths
pub mod SameTrees
pub mod Readiness
pub mod Reach
pub mod SeriesMeaning
pub mod Sides
pub mod Times
