pub mod TableLemmas
pub mod RegionSearch
pub mod RegionRights
pub mod NextAbove
