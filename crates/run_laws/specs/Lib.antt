pub mod Hidings
pub mod Places
pub mod Stops
