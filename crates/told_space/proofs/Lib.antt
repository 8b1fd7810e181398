pub mod Alike
pub mod Standing
pub mod StoredWords
pub mod KeptImages
pub mod FollowedSpaces
