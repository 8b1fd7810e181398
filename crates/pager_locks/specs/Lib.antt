pub mod Counts
pub mod Locked
pub mod Locks
pub mod Calls
pub mod Prepared
pub mod Logs
