pub mod Marked
pub mod Replicas
