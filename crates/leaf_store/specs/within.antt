-- What only proofs read: how entries, replicas and a leaf's state are kept.
pub mod Follows
pub mod FreshEntries
pub mod FromBehind
pub mod KeptEntries
pub mod Raises
pub mod Replicas
pub mod States
