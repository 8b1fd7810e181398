pub mod Answers
pub mod Suits
