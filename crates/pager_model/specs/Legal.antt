-- Which histories are legal: each entry names its parts, each part that it names allows it after the part's entries before
-- it, and it keeps its processor's order. What a part or a processor's list allows is judged from the setting and that list
-- alone, and nothing else is asked of an entry.
use Rattle.std.specs.Prelude.{ℕ, suc, ◌≡◌, ◌<◌, true, List, [], ◌∷◌, ◌++◌, length, fold, Option, Some, IfSome, map}
use Rattle.pager_model.specs.declared.entry.Entry.{Entry}
use Rattle.pager_model.specs.declared.entry.Numbered.{Numbered}
use Rattle.pager_model.specs.Entries.{space_part, frames_part, entries_of, NamesItsParts}
use Rattle.pager_model.specs.FrameStates.{FrameState, start_frames, frames_after, FramesAllow}
use Rattle.pager_model.specs.Order.{Progress, progress_of, progress_by, IsWhole}
use Rattle.pager_model.specs.Settings.{Given, mark_of, is_told, faults_at_entry}
use Rattle.pager_model.specs.SpaceStates.{SpaceState, space_state, SpaceAllows}

-- What lists lead to.

-- the entries of a space
abbrev pub state_of_space : Given → ℕ → List Entry → SpaceState
state_of_space g s entries = space_state g.sizes (is_told g s) (faults_at_entry g s) entries

-- the entries on the frames
abbrev pub frames_state : Given → List Entry → FrameState
frames_state g entries = fold frames_after (start_frames g.sizes g.frames (length g.marks)) entries

-- the entries of a processor
abbrev pub progress_in : Given → ℕ → List Entry → Option Progress
progress_in g c entries = progress_of (mark_of g c) entries

-- after a history: the state of space s, of the frames, and the progress of processor c
abbrev pub space_at : Given → List Entry → ℕ → SpaceState
space_at g history s = state_of_space g s (space_part s history)

abbrev pub frames_at : Given → List Entry → FrameState
frames_at g history = frames_state g (frames_part history)

abbrev pub progress_at : Given → List Entry → ℕ → Option Progress
progress_at g history c = progress_in g c (entries_of c history)

-- What they allow.

-- a space with these entries allows the entry next
abbrev pub SpaceJudges : Given → ℕ → List Entry → Entry → Type 0
SpaceJudges g s entries e = SpaceAllows (state_of_space g s entries) e

-- the frames with these entries do
abbrev pub FramesJudge : Given → List Entry → Entry → Type 0
FramesJudge g entries e = FramesAllow (frames_state g entries) (mark_of g e.processor) e.processor e.space e.what

-- with these entries of the entry's processor it keeps the order
abbrev pub KeepsOrder : Given → List Entry → Entry → Type 0
KeepsOrder g entries e = (p : Progress) × (progress_by (progress_in g e.processor entries) e ≡ Some p)

-- the entry may come after the history
pub record MayFollow (g : Given) (history : List Entry) (e : Entry) : Type 0 where
  pub parts : NamesItsParts e
  pub processor : e.processor < length g.marks
  pub space : IfSome e.space (λ s. s < length g.told)
  pub by_space : IfSome e.space (λ s. SpaceJudges g s (space_part s history) e)
  pub by_frames : e.frames ≡ true → FramesJudge g (frames_part history) e
  pub ordered : KeepsOrder g (entries_of e.processor history) e

-- each of the entries may come after the history and the entries before it
abbrev pub AllFollow : Given → List Entry → List Entry → Type 0
AllFollow g history [] = Unit {0}
AllFollow g history (e ∷ es) = MayFollow g history e × AllFollow g (history ++ e ∷ []) es

abbrev pub IsLegal : Given → List Entry → Type 0
IsLegal g history = AllFollow g [] history

-- every processor's list is whole
abbrev pub AllWhole : Given → List Entry → Type 0
AllWhole g history = (c : ℕ) → c < length g.marks → IsWhole (mark_of g c) (entries_of c history)

-- the entries of a numbered history
abbrev pub entries_in : List Numbered → List Entry
entries_in history = map (λ (n : Numbered). n.entry) history

-- the entries with their places, from this one on
abbrev pub numbered_from : ℕ → List Entry → List Numbered
numbered_from place [] = []
numbered_from place (e ∷ es) = record { number = place; entry = e } ∷ numbered_from (suc place) es

-- a history with the places of its entries
abbrev pub numbered : List Entry → List Numbered
numbered history = numbered_from 0 history
