pub mod Refusals
pub mod Claims
pub mod Tables
