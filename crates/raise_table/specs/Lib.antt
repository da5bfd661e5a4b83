pub mod Places
pub mod Seats
pub mod RaiseRule
pub mod Steps
pub mod Tables
