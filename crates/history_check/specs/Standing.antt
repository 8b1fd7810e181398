-- Where a checker is after a legal history.
use Rattle.std.specs.Prelude.{ℕ, ◌≡◌, ◌+◌, ◌^◌, ◌<◌, ◌≤◌, true, List, [], ◌∷◌, ◌++◌, length, slice_index_or, Option, Some, None}
use Rattle.followed_space.specs.Follows.{AnswersLine}
use Rattle.told_space.specs.declared.space.ToldSpace.{ToldSpace}
use Rattle.told_space.specs.Told.{Kept, Stands, kept_of}
use Rattle.tiles.specs.Resident.{frames_in}
use Rattle.pager_model.specs.declared.entry.Entry.{Entry}
use Rattle.pager_model.specs.declared.entry.Victim.{Victim}
use Rattle.pager_model.specs.Bounds.{most_spaces}
use Rattle.pager_model.specs.FrameStates.{FrameState}
use Rattle.pager_model.specs.Legal.{IsLegal, MayFollow, frames_at, progress_at, space_at}
use Rattle.pager_model.specs.Order.{Progress}
use Rattle.pager_model.specs.Settings.{Given, mark_of}
use Rattle.pager_model.specs.SizeSets.{SizeSet}
use Rattle.pager_model.specs.SpaceStates.{empty_state}
use Rattle.history_check.specs.declared.checker.Checker.{Checker}

-- Before an entry.

-- The history is legal; what is kept of the frames, of the entry's space and of its processor is what it leads to.
pub record StandsAt (g : Given) (history : List Entry) (frames : FrameState) (kept : Kept) (before : Progress) (mark space : ℕ) (e : Entry) : Type 0 where
  pub legal : IsLegal g history
  pub frames_are : frames ≡ frames_at g history
  pub spaces_few : length g.told ≤ most_spaces
  pub space_known : space < length g.told
  pub stands : Stands kept (space_at g history space)
  pub images : length kept.images ≡ length g.marks
  pub pages : frames_in kept.space.pages ≡ g.frames
  pub processor : e.processor < length g.marks
  pub mark_is : mark ≡ mark_of g e.processor
  pub at : progress_at g history e.processor ≡ Some before
  pub line : AnswersLine e.what

-- The same, for an entry that names no space.
pub record StandsAlone (g : Given) (history : List Entry) (frames : FrameState) (before : Progress) (mark : ℕ) (e : Entry) : Type 0 where
  pub legal : IsLegal g history
  pub frames_are : frames ≡ frames_at g history
  pub spaces_few : length g.told ≤ most_spaces
  pub processor : e.processor < length g.marks
  pub mark_is : mark ≡ mark_of g e.processor
  pub at : progress_at g history e.processor ≡ Some before

-- the page of a victim, where there is one
abbrev pub page_in : Option Victim → ℕ
page_in None = 0
page_in (Some victim) = victim.page

-- After an entry.

-- The entry may follow the history, and what is kept of the frames and of its processor is what the history leads to with it.
pub record GoesOn (g : Given) (history : List Entry) (e : Entry) (frames : FrameState) (before after : Progress) : Type 0 where
  pub may : MayFollow g history e
  pub frames_are : frames ≡ frames_at g (history ++ e ∷ [])
  pub at : progress_at g (history ++ e ∷ []) e.processor ≡ Some after
  pub made : after.made ≤ before.made + 1

-- What is kept of a space is what a history leads to.
pub record IsKeptAfter (g : Given) (history : List Entry) (space : ℕ) (kept : Kept) : Type 0 where
  pub stands : Stands kept (space_at g history space)
  pub images : length kept.images ≡ length g.marks
  pub pages : frames_in kept.space.pages ≡ g.frames

-- a space of these page sizes, frames and processors before its first entry
pub record IsNewSpace (sizes : SizeSet) (frames processors : ℕ) (told : ToldSpace) : Type 0 where
  pub stands : Stands (kept_of told) (empty_state sizes true 0)
  pub images : length told.images ≡ processors
  pub pages : frames_in told.space.pages ≡ frames

-- Between two entries.

-- each space is kept so
pub record AreKeptAfter (g : Given) (history : List Entry) (spaces : List ToldSpace) : Type 0 where
  pub known : length spaces ≡ length g.told
  pub each : (s : ℕ) (d : ToldSpace) → s < length spaces → IsKeptAfter g history s (kept_of (slice_index_or spaces s d))

-- each processor has come so far, with no more calls answered or turns made than there are entries
pub record HaveCome (g : Given) (history : List Entry) (progress : List Progress) : Type 0 where
  pub known : length progress ≡ length g.marks
  pub each : (c : ℕ) (d : Progress) → c < length progress → progress_at g history c ≡ Some (slice_index_or progress c d)
  pub made : (c : ℕ) (d : Progress) → c < length progress → (slice_index_or progress c d).made ≤ length history

-- The history is legal, and all that the checker keeps is what it leads to.
pub record StandsAfter (g : Given) (history : List Entry) (checker : Checker) : Type 0 where
  pub legal : IsLegal g history
  pub spaces_few : length g.told ≤ most_spaces
  pub marks_are : checker.marks.items ≡ g.marks
  pub frames_are : checker.frames ≡ frames_at g history
  pub spaces : AreKeptAfter g history checker.spaces.items
  pub progress : HaveCome g history checker.progress.items

-- Some history does, and an entry more can be counted.
pub record StandsSome (checker : Checker) : Type 0 where
  pub given : Given
  pub history : List Entry
  pub stands : StandsAfter given history checker
  pub few : length history < 2 ^ 45
