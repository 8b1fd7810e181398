-- What the seats of an author, of a pass and of the journal itself know.
use Rattle.std.specs.Prelude.{ℕ, ◌≡◌, ◌≤◌, ◌<◌, true, List, [], ◌∷◌, map, reverse, length}
use Rattle.atomic_table.specs.Seated.{TableId}
use Rattle.atomic_table.specs.Table.{Me}
use Rattle.pager_model.specs.declared.entry.Numbered.{Numbered}
use Rattle.pager_model.specs.Settings.{Given}
use Rattle.journal_core.specs.declared.view.View.{View}
use Rattle.journal_core.specs.declared.view.Part.{Part}
use Rattle.journal_core.specs.declared.view.Own.{Own}
use Rattle.journal_core.specs.Journals.{JournalName, AuthorState, PassState}
use Rattle.journal_core.specs.Views.{most_entries, blank_part, word_count}

abbrev pub author_view : AuthorState → View
author_view a = record {
  live = true;
  setting = a.journal.setting;
  authors = record { part = a.part; entries = a.entries } ∷ [];
  passes = [];
}

abbrev pub pass_view : PassState → View
pass_view p = record {
  live = true;
  setting = p.journal.setting;
  authors = [];
  passes = record { processor = p.processor; entries = p.entries } ∷ [];
}

abbrev pub first_part : List Part → Part
first_part [] = blank_part 0
first_part (p ∷ ps) = p

abbrev pub name_of : TableId → View → JournalName
name_of table v = record { table = table; setting = v.setting }

-- the author that a seat is
abbrev pub author_of : TableId → View → AuthorState
author_of table v = record { journal = name_of table v; part = (first_part v.authors).part; entries = (first_part v.authors).entries }

pub record IsAuthor (table : TableId) (me : Me Unit View) : Type 0 where
  pub seat : me ≡ (author_view (author_of table me.0), [])
  pub part : (author_of table me.0).part ≤ length me.0.setting.told

-- the pass that a seat is, with its processor's entries as data
abbrev pub pass_of : TableId → View → ℕ → List Numbered → ℕ → PassState
pass_of table v processor entries room = record { journal = name_of table v; processor = processor; entries = entries; room = room }

pub record IsPass (p : PassState) (me : Me Unit View) : Type 0 where
  pub seat : me ≡ (pass_view p, [])
  pub room : length p.entries ≤ p.room
  pub most : p.room ≤ most_entries
  pub processor : p.processor < length p.journal.setting.marks

-- the journal's word and its rooms fit its setting
pub record IsJournal (table : TableId) (g : Given) (room : ℕ) : Type 0 where
  pub words : table.words ≡ word_count
  pub slots : table.slots ≡ 0
  pub logs : room ≡ length g.marks

-- what the seats of an author and of a pass bring into one
abbrev pub part_of : AuthorState → Part
part_of a = record { part = a.part; entries = a.entries }

abbrev pub own_of : PassState → Own
own_of p = record { processor = p.processor; entries = p.entries }

-- the seat that has taken in all of these
abbrev pub whole_view : Given → List AuthorState → List PassState → View
whole_view g authors passes =
    record { live = true; setting = g; authors = map part_of (reverse authors); passes = map own_of (reverse passes) }
