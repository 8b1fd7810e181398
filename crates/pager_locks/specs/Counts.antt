-- What a turn of a daemon did, counted over its entries.
use Rattle.std.specs.Prelude.{ℕ, ◌-◌, Bool, true, false, not, List, count_by, drop, length}
use Rattle.journal_core.specs.Journals.{PassState}
use Rattle.pager_model.specs.declared.entry.Entry.{Entry}
use Rattle.pager_model.specs.declared.entry.What.{What}
use Rattle.pager_model.specs.declared.entry.What.TheVariants.{Out, Failed, Unclaim}
use Rattle.pager_model.specs.Legal.{entries_in}

-- a page was written to its copy and paged out
abbrev pub is_written : What → Bool
is_written (Out page written) = written
is_written what = false

-- a page was paged out that was equal to its copy
abbrev pub is_clean : What → Bool
is_clean (Out page written) = not written
is_clean what = false

-- a store failed
abbrev pub is_fault : What → Bool
is_fault (Failed page writing count) = true
is_fault what = false

-- a claim was given up
abbrev pub is_unclaim : What → Bool
is_unclaim (Unclaim frame) = true
is_unclaim what = false

abbrev pub written_in : List Entry → ℕ
written_in entries = count_by (λ (e : Entry). is_written e.what) entries

abbrev pub clean_in : List Entry → ℕ
clean_in entries = count_by (λ (e : Entry). is_clean e.what) entries

abbrev pub faults_in : List Entry → ℕ
faults_in entries = count_by (λ (e : Entry). is_fault e.what) entries

abbrev pub unclaims_in : List Entry → ℕ
unclaims_in entries = count_by (λ (e : Entry). is_unclaim e.what) entries

-- A claim is given up after each write that failed. The others were given up for want of memory.
abbrev pub memory_in : List Entry → ℕ
memory_in entries = unclaims_in entries - faults_in entries

-- the entries that a pass has and didn't have before
abbrev pub made_since : PassState → PassState → List Entry
made_since old new = entries_in (drop (length old.entries) new.entries)
