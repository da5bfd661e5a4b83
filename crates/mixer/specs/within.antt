-- What only proofs read: pieces of several children, and the rows that are made of pieces.
pub mod Joined
pub mod Mixtures
pub mod ZonePieces
