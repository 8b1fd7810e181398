pub mod Choices
pub mod Extents
pub mod BlockMoves
pub mod NodeNumbers
pub mod Ranges
pub mod Runs
