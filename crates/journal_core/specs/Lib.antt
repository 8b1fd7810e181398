pub mod Parts
pub mod Places
pub mod Views
pub mod Journals
pub mod Seats
pub mod Clauses
