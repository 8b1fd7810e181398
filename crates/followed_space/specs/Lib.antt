pub mod Changed
pub mod Follows
