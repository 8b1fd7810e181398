-- What a run begins with and what it leaves: its setting, its spaces and its frames.
use Rattle.std.specs.Prelude.{ℕ, ◌≡◌, Bool, true, List, length, replicate, slice_get, Some}
use Rattle.pager_model.specs.declared.entry.Entry.{Entry}
use Rattle.pager_model.specs.FrameStates.{FrameState}
use Rattle.pager_model.specs.Legal.{space_at, frames_at}
use Rattle.pager_model.specs.Settings.{Given, is_told, faults_at_entry}
use Rattle.pager_model.specs.SizeSets.{SizeSet}
use Rattle.pager_model.specs.SpaceStates.{empty_state}
use Rattle.pager_model.specs.Stored.{Stored, TellsZero}
use Rattle.space_core.specs.Rooms.{Capacity}
use Rattle.space_core.specs.Standing.{Kept, IsResting, StandsFor}
use Rattle.flight_core.specs.Flights.{IsAtRest}

-- a space as a run begins with it: without regions, with these page sizes, with an image for each of so many processors, over a store of
-- which this was told and which has had so many faults
pub record IsNew (z : SizeSet) (frames processors number : ℕ) (told : Bool) (faults : ℕ) (kept : Kept) : Type 0 where
  pub number_is : kept.number ≡ number
  pub frames_are : kept.frames ≡ frames
  pub processors_are : length kept.images ≡ processors
  pub resting : IsResting kept
  pub stands : StandsFor kept (empty_state z told faults)

-- Room for the spaces of a setting over these stores, of which what it says is so: each room is for the frames,
-- the processors and the page sizes of the setting.
pub record AreRoomsOver (given : Given) (stores : List Stored) (rooms : List Capacity) : Type 0 where
  pub rooms_are : rooms ≡ replicate (length given.told)
      (record { frames = given.frames; processors = length given.marks; sizes = given.sizes })
  pub told : (s : ℕ) (store : Stored) → slice_get stores s ≡ Some store → is_told given s ≡ true → TellsZero store
  pub faults : (s : ℕ) (store : Stored) → slice_get stores s ≡ Some store → faults_at_entry given s ≡ store.faults

-- The new spaces of a setting, in their order.
pub record AreNewSpaces (given : Given) (spaces : List Kept) : Type 0 where
  pub count : length spaces ≡ length given.told
  pub new : (s : ℕ) (kept : Kept) → slice_get spaces s ≡ Some kept
      → IsNew given.sizes given.frames (length given.marks) s (is_told given s) (faults_at_entry given s) kept

-- After a history no flight is in a space: each space is at rest after its part of it, and the pool is the frames' state after theirs.
pub record AreAtRest (given : Given) (history : List Entry) (spaces : List Kept) (pool : FrameState) : Type 0 where
  pub count : length spaces ≡ length given.told
  pub spaces_rest : (s : ℕ) (kept : Kept) → slice_get spaces s ≡ Some kept → IsAtRest kept (space_at given history s)
  pub pool_is : pool ≡ frames_at given history
