pub mod HistoryText
pub mod Refusals
pub mod Lines
pub mod Calls
pub mod Replies
