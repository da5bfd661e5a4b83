mod AckedRows
mod AreaLemmas
pub mod FindingLemmas
pub mod HiddenRows
pub mod HintFacts
pub mod LeafLemmas
pub mod NextPlaces
pub mod ResolvedZones
pub mod RoundLemmas
pub mod SeenLemmas
pub mod SeenSpans
pub mod Spans
mod TraceGrowth
mod VisitLemmas
pub mod WantedRows
pub mod ZoneFacts
