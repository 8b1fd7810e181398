-- The status of a call of an open pool.
use Rattle.std.proofs.Common.{◌≡◌, ℕ, Option, Some, sym, ap, ◌∙◌}
use Rattle.pager_model.specs.FrameStates.{FrameState}
use Rattle.frame_table.specs.declared.refusal.Refusal.{Refusal}
use Rattle.superpager_c.specs.Statuses.{status_of, status_on}

-- where the pool is in this state, the status tells why the call is refused in it
pub status_in : (pool : Option FrameState) (st : FrameState) (refusal : FrameState → Option Refusal) (status : ℕ) → pool ≡ Some st
    → status ≡ status_of (refusal st) → status ≡ status_on pool refusal
status_in pool st refusal status is told = told ∙ sym (ap (λ o. status_on o refusal) is)
