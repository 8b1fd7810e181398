-- What a table keeps true of its pool and the frames beside it.
use Rattle.std.specs.Prelude.{ℕ, ◌≡◌, List, length, slice_index_or, Option, Some, None, is_some, if◌then◌else◌}
use Rattle.pager_model.specs.Frame.{Framed}
use Rattle.pager_model.specs.declared.reservation.Used.{Used}
use Rattle.pager_model.specs.FrameStates.{FrameState}
use Rattle.pager_laws.specs.Laid.{IsSound}
use Rattle.frame_pool.specs.Pooled.{number_in}

-- exactly the used frames are here, each at its number
abbrev pub AreOut : List (Option Framed) → List (Option Used) → Type 0
AreOut out used = (f : ℕ) → number_in (slice_index_or out f None) ≡ (if is_some (slice_index_or used f None) then Some f else None)

-- The state is sound, and exactly the used places are beside the pool.
pub record IsTable (out : List (Option Framed)) (st : FrameState) : Type 0 where
  pub sound : IsSound (length st.free) (length st.held) st
  pub known : length out ≡ length st.free
  pub exact : AreOut out st.used
