-- The lists of a history: a part's entries, and a processor's with their places.
use Rattle.std.specs.Prelude.{ℕ, Bool, ◌==◌, if◌then◌else◌, List, filter}
use Rattle.pager_model.specs.declared.entry.Entry.{Entry}
use Rattle.pager_model.specs.declared.entry.Numbered.{Numbered}
use Rattle.pager_model.specs.Entries.{is_of, names_space, names_frames, space_part, frames_part}
use Rattle.pager_model.specs.Legal.{numbered}

-- Each space is a part, by its number, and the frames are the part whose number is the count of the spaces.
abbrev pub part_list : ℕ → ℕ → List Entry → List Entry
part_list spaces part history = if part == spaces then frames_part history else space_part part history

-- the entry names the part
abbrev pub names_part : ℕ → ℕ → Entry → Bool
names_part spaces part e = if part == spaces then names_frames e else names_space part e

abbrev pub is_numbered_of : ℕ → Numbered → Bool
is_numbered_of c n = is_of c n.entry

-- a processor's entries with their places in the history
abbrev pub own_list : ℕ → List Entry → List Numbered
own_list c history = filter (is_numbered_of c) (numbered history)
