pub mod Ownership
pub mod Statuses
pub mod Asked
pub mod Answers
