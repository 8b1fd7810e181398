pub mod Steps
pub mod Owners
pub mod Made
