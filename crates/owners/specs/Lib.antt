pub mod Calls
pub mod Copies
pub mod Entries
pub mod Openings
pub mod Owners
pub mod Puts
pub mod Receiving
