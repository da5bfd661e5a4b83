pub mod Faults
pub mod Fits
pub mod Held
pub mod Names
