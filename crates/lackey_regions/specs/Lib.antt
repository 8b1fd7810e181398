pub mod Held
pub mod LineCalls
pub mod RegionPlaces
pub mod Refusals
