pub mod FailingCalls
pub mod SlotLists
pub mod SlotTables
pub mod SlotCopies
