pub mod HeldSeries
pub mod LongNumbers
pub mod MetricNumbers
pub mod SeriesMaps
pub mod SeriesPoints
pub mod SlotViews
pub mod Splits
pub mod within
