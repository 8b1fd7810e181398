pub mod WholeJobs
pub mod FiledLemmas
pub mod RunLemmas
pub mod StandingLemmas
pub mod ScheduleLemmas
pub mod OrderLemmas
pub mod JobLemmas
pub mod ThreadLemmas
