pub mod BlocksState
pub mod Devices
pub mod FreeSlots
pub mod SlotState
pub mod Slots
