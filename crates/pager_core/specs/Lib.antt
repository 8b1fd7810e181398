pub mod RunParts
pub mod TraceJobs
pub mod Running
pub mod Replays
pub mod Machines
pub mod Sums
pub mod Listing
