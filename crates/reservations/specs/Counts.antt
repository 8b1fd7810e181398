-- How many used places the extents of frames have.
use Rattle.std.specs.Prelude.{ℕ, ◌≡◌, ◌*◌, ◌≤◌, Bool, List, length, slice_index, count_by}
use Rattle.std.specs.List.{range_with_len}
use Rattle.pager_model.specs.Records.{is_used}

-- how many of the count frames from first on are used places
abbrev pub used_in : List Bool → ℕ → ℕ → ℕ
used_in used first count = count_by (is_used used) (range_with_len first count)

-- the counts are those of the extents of so many frames, each at its number, and no frame is past the last of them
pub record AreCounts (used : List Bool) (pages : ℕ) (counts : List ℕ) : Type 0 where
  pub long : length used ≤ length counts * pages
  pub exact : (i : ℕ) → slice_index counts i ≡ used_in used (i * pages) pages
