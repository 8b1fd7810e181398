use Rattle.std.proofs.Common.{◌-◌}
use Rattle.reservations.specs.Kept.{IsFilled}
use Rattle.reservations.proofs.write.Given as goal

abbrev pub invariant-loop-frame : goal.invariant-loop-frame
invariant-loop-frame l = IsFilled l.initial.ids l.ids l.fn.first (l.frame - l.fn.first) l.id
