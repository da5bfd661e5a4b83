pub mod AnswerLemmas
pub mod ApartKeys
pub mod ApartSeries
pub mod FetchLemmas
pub mod FilterLemmas
mod FilterSteps
pub mod FlowLemmas
pub mod HeldSeriesLemmas
mod ItemLemmas
mod KeptLemmas
pub mod KeyCells
pub mod KeyOrders
mod LeftOutLemmas
mod MapGroups
pub mod MeaningOrderLemmas
mod MetricSeries
mod OperationLemmas
pub mod OperationOrders
pub mod PartLemmas
pub mod PartsToComeLemmas
pub mod PathLemmas
pub mod ReachLemmas
pub mod ReadyLemmas
pub mod SeriesOrderLemmas
mod SameTreeLemmas
pub mod SeriesOrders
mod SideLemmas
pub mod StandingPieces
mod TopLemmas
pub mod WalkLemmas
pub mod WantedLemmas
pub mod WindowLemmas
