pub mod Listed
pub mod Placed
pub mod Pooled
pub mod LayoutState
pub mod ReservedState
pub mod ReservedChanges
pub mod PoolState
pub mod Mapped
