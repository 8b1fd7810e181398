use Rattle.std.proofs.Common.{List, Option}
use Rattle.pager_model.specs.declared.reservation.Reservation.{Reservation}
use Rattle.frame_pool.specs.Mapped.{IsMapped, WasSplitFrom}
use Rattle.frame_pool.proofs.MappedParts.{looked}
use Rattle.frame_pool.proofs.mapped.split.Given as goal

-- of the parts so far those that are empty went
abbrev pub invariant-loop-part : goal.invariant-loop-part
invariant-loop-part l = (after : List (Option Reservation)) → (was : WasSplitFrom l.fn.map after l.parts l.whole)
    → IsMapped l.map (looked l.part-index was.used l.whole was.records)
