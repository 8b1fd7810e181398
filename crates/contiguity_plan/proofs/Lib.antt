pub mod PlaceLemmas
pub mod RightTables
pub mod Extents
pub mod Planned
pub mod Followed
pub mod Emptied
