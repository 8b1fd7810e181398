pub mod Numbers
pub mod Splits
pub mod Forms
pub mod Lines
pub mod Calls
pub mod CutWords
