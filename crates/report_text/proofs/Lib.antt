pub mod SentBytes
pub mod Lines
pub mod EntryAnswers
