-- What only proofs read: how points and rows are kept, what is hidden of them, the rows' order, and their series by
-- metric.
pub mod Hidden
pub mod KeptPoints
pub mod KeptRows
pub mod Metrics
pub mod Orders
pub mod Places
