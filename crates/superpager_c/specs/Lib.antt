pub mod Ownership
pub mod Statuses
pub mod Answers
