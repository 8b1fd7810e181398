pub mod FullCounts
pub mod Rows
pub mod Hands
pub mod PinnedHands
