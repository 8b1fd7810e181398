use Rattle.std.proofs.Common.{inl, inr, arith}
use Rattle.std.proofs.lemmas.Bool.{cases_lt}
use Rattle.frame_pool.proofs.pins.next_placed.Goals as goal

pub loop-from-preserved : goal.loop-from-preserved
loop-from-preserved c =
    record {
      low = omega (arith, c.loop-from.invariant.low);
      none = λ other low below. elim (cases_lt other c.loop-from.from) [
        | inl early ↦ c.loop-from.invariant.none other low early
        | inr late ↦ c.placeless_from-placeless.ensures.none other late (omega (arith, below, c.min-from.ensures))
      ];
    }
