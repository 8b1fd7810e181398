-- What a run says of its stores: the setting over them, and what holds of them at its end.
use Rattle.std.specs.Prelude.{ℕ, ◌≡◌, ◌<◌, ◌≤◌, true, List, length, map, take, slice_get, slice_index_or, Option, Some, None, IsSomeAnd}
use Rattle.pager_model.specs.declared.entry.Numbered.{Numbered}
use Rattle.pager_model.specs.Legal.{space_at, entries_in}
use Rattle.pager_model.specs.Scripts.{Script}
use Rattle.pager_model.specs.Settings.{Given, is_told}
use Rattle.pager_model.specs.Showing.{marks_of}
use Rattle.pager_model.specs.SizeSets.{SizeSet}
use Rattle.pager_model.specs.SpaceStates.{last_count}
use Rattle.pager_model.specs.Stored.{Stored, copy_at}

-- The setting of a run over stores, one for each space: so many frames, these page sizes, these marks, and what each store said at the
-- start of its copies and its faults.
abbrev pub given_over : ℕ → SizeSet → List ℕ → List Stored → Given
given_over frames z marks stores =
    record {
      sizes = z;
      frames = frames;
      marks = marks;
      told = map (λ (s : Stored). s.told) stores;
      faults = map (λ (s : Stored). s.faults) stores;
    }

-- The setting of a trace over the stores that are handed in, of which each space uses the one of its number: its frames and page sizes, a mark of 0
-- for each processor and the daemon's low mark for one more, and what each store said at the start of its copies and its faults.
abbrev pub setting_over : Script → List Stored → Given
setting_over script stores = given_over script.frames script.sizes (marks_of script) (take script.spaces stores)

-- the copy of flat memory is that of the store: both are unknown, or their words are the same
abbrev pub IsCopy : Option (ℕ → ℕ) → Option (List ℕ) → Type 0
IsCopy None None = Unit {0}
IsCopy None (Some words) = ⊥
IsCopy (Some f) None = ⊥
IsCopy (Some f) (Some words) = (i : ℕ) → f i ≡ slice_index_or words i 0

-- What holds of the store of a space after a history: where it told its copies at the start it tells them still, and they are the flat
-- memory's; and no failure in the history has a higher count than it.
pub record EndsWith (given : Given) (history : List Numbered) (s : ℕ) (store : Stored) : Type 0 where
  pub tells : is_told given s ≡ true → store.tells ≡ true
  pub copies : is_told given s ≡ true → (page : ℕ) → IsCopy ((space_at given (entries_in history) s).flat.copies page) (copy_at store page)
  pub counts : (space_at given (entries_in history) s).highest ≤ store.faults

-- each space has a store, of which it holds
abbrev pub StoresEnd : Given → List Numbered → List Stored → Type 0
StoresEnd given history stores = (s : ℕ) → s < length given.told → IsSomeAnd (slice_get stores s) (EndsWith given history s)

-- the counts of faults of the stores of so many spaces are of 64 bits
abbrev pub AreCapped : ℕ → List Stored → Type 0
AreCapped spaces stores = (s : ℕ) (store : Stored) → s < spaces → slice_get stores s ≡ Some store → store.faults ≤ last_count
