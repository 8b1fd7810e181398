-- The lists in hand are of a history, whoever else goes on with the parts that aren't.
use Rattle.std.specs.Prelude.{ℕ, ◌≡◌, ◌-◌, ◌<◌, ◌≤◌, true, List, ◌++◌, length, Option, Some, None, IfSome, IsSomeAnd, is_some}
use Rattle.journal_core.specs.Journals.{JournalName, AuthorState, PassState}
use Rattle.pager_model.specs.declared.entry.Entry.{Entry}
use Rattle.pager_model.specs.declared.entry.Numbered.{Numbered}
use Rattle.pager_model.specs.Entries.{space_part, frames_part, entries_of}
use Rattle.pager_model.specs.Legal.{entries_in}
use Rattle.pager_model.specs.Settings.{Given}

-- the author is of a space of this journal, and its list is the space's part
pub record IsSpaceOf (j : JournalName) (a : AuthorState) (h : List Entry) : Type 0 where
  pub journal : a.journal ≡ j
  pub is_space : a.part < length j.setting.told
  pub listed : a.entries ≡ space_part a.part h

-- the author is of the journal's frames, and its list is their part
pub record IsFramesOf (j : JournalName) (a : AuthorState) (h : List Entry) : Type 0 where
  pub journal : a.journal ≡ j
  pub is_frames : a.part ≡ length j.setting.told
  pub listed : a.entries ≡ frames_part h

-- the pass is of this journal, and its list is its processor's part
pub record IsPassOf (j : JournalName) (p : PassState) (h : List Entry) : Type 0 where
  pub journal : p.journal ≡ j
  pub own : entries_in p.entries ≡ entries_of p.processor h
  pub within : length p.entries ≤ p.room

-- all lists in hand are of the history, and the pass is there
pub record AreHeld (j : JournalName) (space frames : Option AuthorState) (pass : Option PassState) (g : Given) (h : List Entry) : Type 0 where
  pub setting : j.setting ≡ g
  pub space_is : IfSome space (λ a. IsSpaceOf j a h)
  pub frames_are : IfSome frames (λ a. IsFramesOf j a h)
  pub pass_is : IsSomeAnd pass (λ p. IsPassOf j p h)

-- the entry is the processor's, and the author of each part that it names is there
pub record MayTake (space frames : Option AuthorState) (pass : Option PassState) (e : Entry) : Type 0 where
  pub own : IfSome pass (λ p. e.processor ≡ p.processor)
  pub by_space : IfSome e.space (λ s. IsSomeAnd space (λ a. s ≡ a.part))
  pub by_frames : e.frames ≡ true → is_some frames ≡ true

-- an author that was there is there, of the same part
abbrev pub SamePart : Option AuthorState → Option AuthorState → Type 0
SamePart from to = IfSome from (λ a. IsSomeAnd to (λ b. b.part ≡ a.part))

-- the pass with some entries more
pub record GoesOn (p q : PassState) : Type 0 where
  pub processor : q.processor ≡ p.processor
  pub room : q.room ≡ p.room
  pub piece : List Numbered
  pub entries : q.entries ≡ p.entries ++ piece

-- the same journal and the same parts, and the pass has some entries more
pub record HasGrown (j now : JournalName) (space space' frames frames' : Option AuthorState) (pass pass' : Option PassState) : Type 0 where
  pub journal : now ≡ j
  pub same_space : SamePart space space'
  pub same_frames : SamePart frames frames'
  pub goes_on : IfSome pass (λ p. IsSomeAnd pass' (GoesOn p))

abbrev pub room_left : Option PassState → ℕ
room_left None = 0
room_left (Some p) = p.room - length p.entries
