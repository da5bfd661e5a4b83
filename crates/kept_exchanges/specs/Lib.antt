pub mod Apart
pub mod Exchanges
pub mod Flows
pub mod Pairs
pub mod Traded
