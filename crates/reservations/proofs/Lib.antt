pub mod CountLemmas
pub mod FrameIds
pub mod SplitLemmas
pub mod YieldLemmas
pub mod UnusedRuns
