pub mod BlockChanges
