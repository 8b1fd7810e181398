pub mod NoteChanges
pub mod NoteCounts
pub mod AgedNotes
