use Rattle.std.proofs.Common.{◌≡◌, ℕ, ◌-◌, Bool}
use Rattle.reservations.specs.Parts.{told_parts}
use Rattle.pager_laws.proofs.SplitFrames.{free_up_to}
use Rattle.frame_pool.proofs.layout.give_parts.Given as goal

abbrev pub invariant-loop-part : goal.invariant-loop-part
invariant-loop-part l = (used : ℕ → Bool) → l.parts ≡ told_parts used l.whole
    → l.free ≡ free_up_to l.part-index (l.whole.size - 1) used l.whole l.initial.free
