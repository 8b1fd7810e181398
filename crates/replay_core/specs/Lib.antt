pub mod DoneJobs
pub mod Schedules
pub mod Jobs
