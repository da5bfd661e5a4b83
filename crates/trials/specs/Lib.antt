pub mod Cells
pub mod Reading
pub mod Summaries
pub mod Tables
