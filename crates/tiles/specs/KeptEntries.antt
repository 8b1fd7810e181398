-- What is kept of the entries.
use Rattle.std.specs.Prelude.{ℕ, ◌≡◌, ◌≢◌, ◌+◌, ◌*◌, ◌%◌, ◌<◌, ◌≤◌, true, ◌==◌, if◌then◌else◌, List, length, slice_index, slice_index_or, Option, Some, None, is_some}
use Rattle.extent_tree.specs.declared.spot.Spot.{Spot}
use Rattle.extent_tree.specs.Rows.{Arena, blank, row, SplitsAreRowsBelow}
use Rattle.pager_model.specs.declared.tile.Mapping.{Mapping}
use Rattle.pager_model.specs.Tiles.{moved_by}
use Rattle.tiles.specs.TableEntries.{pages_in, entry_count}

-- at most one of the four rows round a page is there
abbrev pub IsOne : (ℕ → Option Mapping) → Type 0
IsOne rows = (size other : ℕ) → size ≤ 3 → other ≤ 3 → other ≢ size → is_some (rows size) ≡ true → rows other ≡ None

-- Each page has one row round it at most, under one of 2,048 roots, and there is room for three nodes for each mapped page.
pub record IsKept (t : Arena Mapping) : Type 0 where
  pub splits : SplitsAreRowsBelow t
  pub one : (page : ℕ) → IsOne (λ size. row t size page)
  pub roots : t.roots ≡ 2048
  pub room : 3 * pages_in t ≤ t.room

-- the counts are those of the entries of each size
pub record AreCounts (counts : List ℕ) (t : Arena Mapping) : Type 0 where
  pub four : length counts ≡ 4
  pub each : (size : ℕ) → size ≤ 3 → slice_index counts size ≡ entry_count t size

-- the count of a size is so many more, and those of the others stay
pub record Grows (size more : ℕ) (old new : List ℕ) : Type 0 where
  pub same_length : length new ≡ length old
  pub each : (other : ℕ) → slice_index new other ≡ slice_index old other + (if other == size then more else 0)

abbrev pub value_of : List (Spot Mapping) → ℕ → Option Mapping
value_of parts part = (slice_index_or parts part blank).value

-- eight parts of so many pages continue each other, from this mapping on, in frames of an extent
pub record Joins (parts : List (Spot Mapping)) (pages : ℕ) (head : Mapping) : Type 0 where
  pub begins : value_of parts 0 ≡ Some head
  pub aligned : head.frame % (8 * pages) ≡ 0
  pub follow : (part : ℕ) → part < 8 → value_of parts part ≡ Some (moved_by (part * pages) head)
