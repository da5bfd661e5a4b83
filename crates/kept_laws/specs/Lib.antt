pub mod Flowing
pub mod Touching
