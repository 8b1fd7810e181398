-- How the notes of used frames are kept.
use Rattle.std.specs.Prelude.{ℕ, ◌≡◌, ◌↔◌, ◌<◌, ◌^◌, List, length, slice_index_or, count_by, is_some, option_map, Option, Some, None, if◌then◌else◌}
use Rattle.pager_model.specs.declared.reservation.Used.{Used}
use Rattle.pager_model.specs.FrameStates.{age_in, is_evictable, is_wired_place, is_claimed_place}
use Rattle.least_ages.specs.Trees.{Tree, leaf, aged_at}

-- the counts of used, of wired and of claimed frames are those of the notes
pub record AreCounted (notes : List (Option Used)) (used wired claimed : ℕ) : Type 0 where
  pub few : length notes < 2 ^ 32
  pub used_are : count_by is_some notes ≡ used
  pub wired_are : count_by is_wired_place notes ≡ wired
  pub claimed_are : count_by is_claimed_place notes ≡ claimed

-- the age of a used place that may be paged out
abbrev pub evictable_age : Option Used → Option ℕ
evictable_age note = if is_evictable note then Some (age_in note) else None

-- each frame that may be paged out is in with its age, and no other is
pub record AreAged (notes : List (Option Used)) (tree : Tree) : Type 0 where
  pub known : tree.count ≡ length notes
  pub ages : (frame : ℕ) → leaf tree frame ≡ option_map (aged_at frame) (evictable_age (slice_index_or notes frame None))

-- a frame is claimed by a processor exactly where the processor claims it
abbrev pub AreMutual : List (Option ℕ) → List (Option ℕ) → Type 0
AreMutual by_frame by_processor =
    (frame processor : ℕ) → (slice_index_or by_frame frame None ≡ Some processor) ↔
    (slice_index_or by_processor processor None ≡ Some frame)
