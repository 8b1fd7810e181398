pub mod Reports
pub mod Steps
pub mod Streams
