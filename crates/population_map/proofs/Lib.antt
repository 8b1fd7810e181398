pub mod Marks
pub mod Masks
pub mod Placings
pub mod Splittings
pub mod Swaps
pub mod Ways
