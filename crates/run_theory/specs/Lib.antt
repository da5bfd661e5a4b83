pub mod InPlace
pub mod Parts
pub mod Tellings
pub mod Writings
