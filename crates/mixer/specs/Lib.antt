pub mod Divisions
pub mod Mixing
pub mod ZoneAnswers
pub mod within
