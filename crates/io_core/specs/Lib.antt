pub mod Faults
pub mod MemorySource
pub mod RealSource
pub mod RealSink
pub mod MemorySink
