-- What only proofs read: the relations between the steps of a run.
pub mod Blocks
pub mod Dues
pub mod Lines
pub mod Stops
pub mod Tried
