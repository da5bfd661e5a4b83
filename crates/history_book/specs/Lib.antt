pub mod Histories
pub mod Numbers
pub mod Seats
pub mod Books
pub mod BookRule
pub mod Steps
