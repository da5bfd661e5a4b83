pub mod FetchFormulas
pub mod FetchParts
pub mod FormulaLinks
pub mod Meeting
