pub mod FirstLists
pub mod Members
pub mod Places
pub mod Renewed
pub mod StampOrder
pub mod ToldMembers
