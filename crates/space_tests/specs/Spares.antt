-- Frames that a space may be given one after another.
use Rattle.std.specs.Prelude.{ℕ, ◌≡◌, ◌≤◌, List, Some, length, map}
use Rattle.std.specs.List.{range_with_len}
use Rattle.pager_model.specs.Frame.{Framed, zero_frame}
use Rattle.pager_model.specs.CallEntries.{clear_entry}
use Rattle.pager_model.specs.SpaceStates.{SpaceState, space_after}
use Rattle.space_core.specs.Beginning.{AreAbsent, SameRegions}
use Rattle.space_core.specs.Standing.{Kept, StandsBut, StandsFor, IsResting, frame_at, range_of}

-- The spare frames are the lowest ones, and the space, which rests and has two processors, has none of them.
pub record HasSpare (kept : Kept) (spare : List Framed) : Type 0 where
  pub resting : IsResting kept
  pub processors : length kept.images ≡ 2
  pub state : SpaceState
  pub stands : StandsFor kept state
  pub lowest : spare ≡ map zero_frame (range_with_len 0 (length spare))
  pub few : length spare ≤ kept.frames
  pub apart : (p number : ℕ) → frame_at kept p ≡ Some number → length spare ≤ number

-- Pages of a range gave their frames up, and none got one.
pub record IsEmptying (old new : Kept) (first len : ℕ) : Type 0 where
  pub same : SameRegions old new
  pub same_pending : new.pending ≡ old.pending
  pub same_paged : new.paged ≡ old.paged
  pub frames : (p number : ℕ) → frame_at new p ≡ Some number → frame_at old p ≡ Some number
  pub stands : (st : SpaceState) → StandsBut first len old st → StandsBut first len new st

-- All pages of the range did that had one, and the space stands for one clearing more.
pub record IsEmptied (old new : Kept) (first len : ℕ) : Type 0 where
  pub same : SameRegions old new
  pub same_pending : new.pending ≡ old.pending
  pub same_paged : new.paged ≡ old.paged
  pub clearing : new.clearing ≡ Some (range_of first len)
  pub none : AreAbsent new first len
  pub frames : (p number : ℕ) → frame_at new p ≡ Some number → frame_at old p ≡ Some number
  pub stands : (st : SpaceState) (c : ℕ) → StandsBut first len old st → StandsFor new (space_after st (clear_entry c old.number first len))
