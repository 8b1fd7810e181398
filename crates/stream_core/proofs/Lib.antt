pub mod MadeJobs
pub mod Fronts
pub mod Streams
pub mod Flown
pub mod Ends
mod Tallies
