pub mod Kept
pub mod Noted
pub mod Notes
pub mod Victims
