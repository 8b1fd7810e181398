pub mod Answers
pub mod Briefs
pub mod Kept
pub mod Places
