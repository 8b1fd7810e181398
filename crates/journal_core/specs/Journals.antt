-- What a contract sees of a journal, of an author and of a pass.
use Rattle.std.specs.Prelude.{ℕ, suc, Bool, true, false, List, [], ◌∷◌, ◌++◌}
use Rattle.atomic_table.specs.Seated.{TableId}
use Rattle.pager_model.specs.declared.entry.Entry.{Entry}
use Rattle.pager_model.specs.declared.entry.Numbered.{Numbered}
use Rattle.pager_model.specs.declared.entry.What.{What}
use Rattle.pager_model.specs.declared.entry.What.TheVariants.{Answer}
use Rattle.pager_model.specs.Settings.{Given}

-- which journal it is, and its setting
pub record JournalName : Type 0 where
  pub table : TableId
  pub setting : Given

-- a journal, and how many entries it has room to gather
pub record JournalState : Type 0 where
  pub name : JournalName
  pub room : ℕ

-- an author of a part, and the part's entries so far
pub record AuthorState : Type 0 where
  pub journal : JournalName
  pub part : ℕ
  pub entries : List Entry

-- a pass of a processor, the processor's entries so far, and how many it has room for
pub record PassState : Type 0 where
  pub journal : JournalName
  pub processor : ℕ
  pub entries : List Numbered
  pub room : ℕ

abbrev pub is_answer : What → Bool
is_answer (Answer number call answered) = true
is_answer what = false

abbrev pub is_numbered_answer : Numbered → Bool
is_numbered_answer n = is_answer n.entry.what

-- the author with one entry more
abbrev pub written : AuthorState → Entry → AuthorState
written a e = record a { entries = a.entries ++ e ∷ [] }

-- the pass with one entry more, at this place of the history
abbrev pub kept : PassState → ℕ → Entry → PassState
kept p place e =
    record {
      journal = p.journal;
      processor = p.processor;
      entries = p.entries ++ record { number = place; entry = e } ∷ [];
      room = p.room;
    }

-- the author of a part at the start
abbrev pub new_author : JournalName → ℕ → AuthorState
new_author journal part = record { journal = journal; part = part; entries = [] }

abbrev pub new_pass : JournalName → ℕ → ℕ → PassState
new_pass journal c room = record { journal = journal; processor = c; entries = []; room = room }

-- the passes of the processors from this one on, with these rooms
abbrev pub new_passes : JournalName → ℕ → List ℕ → List PassState
new_passes journal c [] = []
new_passes journal c (room ∷ rooms) = new_pass journal c room ∷ new_passes journal (suc c) rooms
