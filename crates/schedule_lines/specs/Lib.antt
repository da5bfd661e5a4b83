pub mod EventNames
pub mod FaultTexts
pub mod LawfulLines
pub mod ScheduleLines
