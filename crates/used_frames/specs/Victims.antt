-- The victim among the used frames.
use Rattle.std.specs.Prelude.{ℕ, ◌≡◌, ◌≤◌, ◌<◌, true, List, length, slice_index_or, Option, None}
use Rattle.pager_model.specs.declared.reservation.Used.{Used}
use Rattle.pager_model.specs.FrameStates.{is_evictable, age_in}

-- of the frames whose page may be paged out it is the one of least age
pub record IsLeast (used : List (Option Used)) (at : ℕ) : Type 0 where
  pub known : at < length used
  pub evictable : is_evictable (slice_index_or used at None) ≡ true
  pub least : (other : ℕ) → is_evictable (slice_index_or used other None) ≡ true
      → age_in (slice_index_or used at None) ≤ age_in (slice_index_or used other None)
