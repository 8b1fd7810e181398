pub mod AllStacks
pub mod FollowedEntries
pub mod ToldEntries
pub mod Usual
