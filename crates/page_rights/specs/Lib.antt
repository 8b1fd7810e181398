pub mod Kept
pub mod Rights
