use Rattle.std.proofs.Common.{◌≡◌, ℕ, length}
use Rattle.pager_model.specs.FrameStates.{FrameState, give_range}
use Rattle.pager_laws.specs.Laid.{IsSound}
use Rattle.contiguity_plan.specs.Places.{place_count}
use Rattle.contiguity_plan.specs.Tables.{IsRight}
use Rattle.contiguity_plan.proofs.table.Table.clear.Given as goal

-- the pages that are left to give their frames up lead to the same state
abbrev pub invariant-loop-page : goal.invariant-loop-page
invariant-loop-page l = record {
  spaces : length l.self.places.items ≡ length l.fn.self.places.items;
  right : (frames processors : ℕ) (st : FrameState) → IsSound frames processors st → IsRight st l.fn.self
      → (now : FrameState) × IsSound frames processors now × IsRight now l.self
      × (give_range now l.space l.first l.count ≡ give_range st l.space l.first l.count);
}

abbrev pub decreases-loop-page : goal.decreases-loop-page
decreases-loop-page l = place_count l.self.places.items
