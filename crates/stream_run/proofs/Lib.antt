pub mod MadeLines
pub mod ReadText
pub mod ToldCounts
pub mod WholeStreams
