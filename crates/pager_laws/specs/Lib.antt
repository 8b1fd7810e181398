pub mod Laid
pub mod Listed
pub mod Allowed
pub mod Breaking
pub mod Copies
pub mod NewPages
pub mod Hits
pub mod Faults
