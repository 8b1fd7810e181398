-- The frames' state as a pool's fields have it, and what they keep true.
use Rattle.std.specs.Prelude.{ℕ, ◌≡◌, ◌<◌, ◌≤◌, List, length, map, slice_index_or, Option, Some, None, is_some, if◌then◌else◌}
use Rattle.pager_model.specs.Frame.{Framed}
use Rattle.pager_model.specs.FrameStates.{FrameState, used_at}
use Rattle.pager_model.specs.Layouts.{Layout}
use Rattle.pager_laws.specs.Laid.{IsSound}
use Rattle.pager_model.specs.Bounds.{most_frames, most_actors}

-- the number of the frame that is there, where one is
abbrev pub number_in : Option Framed → Option ℕ
number_in None = None
number_in (Some frame) = Some frame.number

-- The state is sound, the layout is the state's, the pool has exactly the frames that are no used places, each at its number, and claims
-- may be of all processors.
pub record IsPool (frames : List (Option Framed)) (layout : Layout) (claimers : ℕ) (st : FrameState) : Type 0 where
  pub sound : IsSound (length st.free) (length st.held) st
  pub same_used : layout.used ≡ map is_some st.used
  pub few_frames : length st.free ≤ most_frames
  pub few_processors : length st.held ≤ most_actors
  pub claimers_known : claimers ≡ length st.held
  pub frames_known : length frames ≡ length st.free
  pub here : (f : ℕ) → f < length frames → number_in (slice_index_or frames f None) ≡ (if is_some (used_at st f) then None else Some f)
  pub few_broken : st.preemptions ≤ st.entries
