use Rattle.std.proofs.Common.{◌≡◌, ℕ, ◌<◌, ◌≤◌, length}
use Rattle.contiguity_plan.specs.Tables.{pinned, use_in}
use Rattle.contiguity_plan.proofs.table.pin_uses.Given as goal

abbrev pub invariant-loop-frame : goal.invariant-loop-frame
invariant-loop-frame l = record {
  long : length l.uses.items ≡ length l.initial.uses.items;
  done : (f : ℕ) → f < l.frame → use_in l.uses.items f ≡ pinned l.space l.first l.count l.wired (use_in l.initial.uses.items f);
  left : (f : ℕ) → l.frame ≤ f → use_in l.uses.items f ≡ use_in l.initial.uses.items f;
}
