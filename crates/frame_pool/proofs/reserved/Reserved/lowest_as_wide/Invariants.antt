use Rattle.std.proofs.Common.{◌≡◌, ℕ, ◌<◌, false}
use Rattle.pager_model.specs.Records.{is_used, part_at, yield_in, same_size}
use Rattle.frame_pool.proofs.reserved.Reserved.lowest_as_wide.Given as goal

abbrev pub invariant-loop-i : goal.invariant-loop-i
invariant-loop-i l =
    (k : ℕ) → k < l.i → same_size (yield_in l.self.sizes (is_used l.self.used) (part_at l.fn.size l.whole k))
    (yield_in l.self.sizes (is_used l.self.used) l.whole) ≡ false
