pub mod Followers
pub mod Stacks
pub mod Examples
