pub mod Replicas
pub mod Visits
