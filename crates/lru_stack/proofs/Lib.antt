pub mod DistinctTiles
pub mod StackLemmas
pub mod Standing
