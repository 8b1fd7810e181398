pub mod Converted
pub mod Frames
pub mod LineWords
pub mod Log
pub mod Taken
