mod AnswerOrders
mod ApartReplicas
mod EvaluatedParts
mod KeptSeries
mod OwnWords
pub mod ReadableSlots
mod ReadyParts
