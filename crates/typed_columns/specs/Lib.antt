pub mod NamedPlaces
pub mod OperandLinks
pub mod PredicateParts
