pub mod Keeping
pub mod FilledPages
pub mod ServedCalls
pub mod RegionCalls
pub mod IdleEntries
pub mod LegalEntries
pub mod ClearedPages
pub mod AnsweredLines
