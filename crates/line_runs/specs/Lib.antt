pub mod Controls
pub mod Feeding
pub mod Following
pub mod LineWrites
pub mod Questions
pub mod StandingLines
