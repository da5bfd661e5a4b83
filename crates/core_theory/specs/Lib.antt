pub mod Core
pub mod FoundDown
pub mod Licensed
