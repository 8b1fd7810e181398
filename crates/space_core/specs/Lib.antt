pub mod Tables
pub mod Pages
pub mod Rooms
pub mod Standing
pub mod Beginning
pub mod Saving
pub mod Keeping
pub mod Translating
