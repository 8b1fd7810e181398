pub mod CopiedWords
pub mod MemoryState
