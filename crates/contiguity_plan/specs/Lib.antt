pub mod Emptying
pub mod Places
pub mod Tables
pub mod Costs
