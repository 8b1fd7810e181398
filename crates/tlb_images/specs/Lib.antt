pub mod Counted
pub mod Image
