pub mod Endings
pub mod Knowledge
pub mod Lending
pub mod Sound
pub mod Tables
