pub mod NextLines
pub mod NextCalls
pub mod Beginnings
pub mod ShortLines
pub mod WholeStreams
