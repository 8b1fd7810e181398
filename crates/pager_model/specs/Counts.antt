-- The counts of a whole history.
use Rattle.std.specs.Prelude.{ℕ, Bool, false, ◌&&◌, not, List, [], ◌∷◌, length, count_by, sum_by, is_some}
use Rattle.std.specs.List.{range_with_len}
use Rattle.pager_model.specs.declared.entry.Entry.{Entry}
use Rattle.pager_model.specs.declared.entry.What.{What}
use Rattle.pager_model.specs.declared.entry.What.TheVariants.{Answer}
use Rattle.pager_model.specs.declared.summary.Summary.{Summary}
use Rattle.pager_model.specs.FrameStates.{free_count, reserved_count, used_count}
use Rattle.pager_model.specs.Legal.{space_at, frames_at}
use Rattle.pager_model.specs.Settings.{Given}
use Rattle.pager_model.specs.SpaceStates.{SpaceState, pages_of}
use Rattle.pager_model.specs.Tiles.{tile_count_in}

-- an answer with a size that is a hit, and one that is a miss
abbrev pub is_hit_in : What → Bool
is_hit_in (Answer number call answered) = is_some answered.size && answered.hit
is_hit_in what = false

abbrev pub is_miss_in : What → Bool
is_miss_in (Answer number call answered) = is_some answered.size && not answered.hit
is_miss_in what = false

abbrev pub hits_in : List Entry → ℕ
hits_in history = count_by (λ (e : Entry). is_hit_in e.what) history

abbrev pub misses_in : List Entry → ℕ
misses_in history = count_by (λ (e : Entry). is_miss_in e.what) history

-- a count of each space after a history, over all spaces
abbrev pub over_spaces : Given → List Entry → (SpaceState → ℕ) → ℕ
over_spaces g history count = sum_by (λ s. count (space_at g history s)) (range_with_len 0 (length g.told))

abbrev pub tiles_after : Given → List Entry → ℕ → ℕ
tiles_after g history size = over_spaces g history (λ st. tile_count_in st.sizes (pages_of st) size)

-- Of tiles by size, and of frames, those at the end; of promotions, demotions, preemptions, hits and misses, those of all entries.
abbrev pub counts : Given → List Entry → Summary
counts g history =
    record {
      tiles = tiles_after g history 0 ∷ tiles_after g history 1 ∷ tiles_after g history 2 ∷ tiles_after g history 3 ∷ [];
      promotions = over_spaces g history (λ st. st.promotions);
      demotions = over_spaces g history (λ st. st.demotions);
      preemptions = (frames_at g history).preemptions;
      hits = hits_in history;
      misses = misses_in history;
      free = free_count (frames_at g history);
      reserved = reserved_count (frames_at g history);
      used = used_count (frames_at g history);
    }
