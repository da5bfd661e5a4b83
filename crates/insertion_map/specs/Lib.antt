pub mod Hashes
pub mod Lends
pub mod Tree
pub mod WordHasher
