-- What a commit needs, and what commits, meetings and closing tell.
use Rattle.std.specs.Prelude.{ℕ, ◌≡◌, ◌≤◌, ◌<◌, true, List, length, IfSome}
use Rattle.pager_model.specs.Bounds.{most_actors}
use Rattle.pager_model.specs.declared.entry.Entry.{Entry}
use Rattle.pager_model.specs.Entries.{space_part, frames_part, entries_of}
use Rattle.pager_model.specs.Legal.{IsLegal, SpaceJudges, FramesJudge, entries_in}
use Rattle.pager_model.specs.Settings.{Given}
use Rattle.journal_core.specs.Journals.{AuthorState, PassState}
use Rattle.journal_core.specs.Parts.{part_list, own_list}
use Rattle.journal_core.specs.Views.{most_entries}

-- the entry names no part but this one, which is one of the spaces, or the frames
abbrev pub NamesOnly : ℕ → ℕ → Entry → Type 0
NamesOnly spaces part e = IfSome e.space (λ s. (s ≡ part) × (s < spaces)) × (e.frames ≡ true → part ≡ spaces)

-- the part that the entry names, which is a space or the frames, allows it after these entries
abbrev pub AllowedAfter : Given → List Entry → Entry → Type 0
AllowedAfter g entries e = IfSome e.space (λ s. SpaceJudges g s entries e) × (e.frames ≡ true → FramesJudge g entries e)

-- the history is legal, of at most 17 processors, each of which has at most 2^31 entries
pub record IsHistory (g : Given) (history : List Entry) : Type 0 where
  pub legal : IsLegal g history
  pub processors : length g.marks ≤ most_actors
  pub entries : (c : ℕ) → length (entries_of c history) ≤ most_entries

-- the author's list is its part of the history
abbrev pub IsPartOf : AuthorState → List Entry → Type 0
IsPartOf a history = a.entries ≡ part_list (length a.journal.setting.told) a.part history

-- the pass's list is its processor's, and has the places of its entries in the history
abbrev pub IsOwnOf : PassState → List Entry → Type 0
IsOwnOf p history = (p.entries ≡ own_list p.processor history) × (entries_in p.entries ≡ entries_of p.processor history)

-- the lists in hand are of this history
abbrev pub AreOf : AuthorState → PassState → List Entry → Type 0
AreOf a p history = IsHistory a.journal.setting history × IsPartOf a history × IsOwnOf p history

-- the lists in hand, of a space, the frames and a processor, are of this history
abbrev pub AreOfTwo : AuthorState → AuthorState → PassState → List Entry → Type 0
AreOfTwo space frames p history =
    IsHistory space.journal.setting history × (space.entries ≡ space_part space.part history) × (frames.entries ≡ frames_part history)
    × IsOwnOf p history

-- the author of a space and the author of the frames
abbrev pub AreSpaceAndFrames : AuthorState → AuthorState → Type 0
AreSpaceAndFrames space frames = (space.part < length space.journal.setting.told) × (frames.part ≡ length space.journal.setting.told)
