pub mod Courses
pub mod PartsDone
pub mod Ticks
