pub mod Streaming
pub mod Tallies
