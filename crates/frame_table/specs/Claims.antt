-- The frame that a processor claims.
use Rattle.std.specs.Prelude.{ℕ, ◌≡◌, Some}
use Rattle.pager_model.specs.FrameStates.{FrameState, used_at, claim_in}

-- The processor claims the frame, and no other.
pub record IsClaimOf (st : FrameState) (processor frame : ℕ) : Type 0 where
  pub claims : claim_in (used_at st frame) ≡ Some processor
  pub alone : (other : ℕ) → claim_in (used_at st other) ≡ Some processor → other ≡ frame
