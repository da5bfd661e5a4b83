pub mod Asking
pub mod Ends
pub mod InOrder
pub mod Looks
pub mod Notes
pub mod Telling
