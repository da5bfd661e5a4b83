pub mod Changes
pub mod Trades
