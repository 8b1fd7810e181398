use Rattle.std.proofs.Common.{◌≡◌, ℕ, ◌*◌, ◌&&◌, nat_le, nat_lt, false, if◌then◌else◌}
use Rattle.bit_set.specs.Bits.{has_bit}
use Rattle.store_file.proofs.page_set.clear_bits.Given as goal

-- the bits of the range in the words below this one are cleared, and any other is as at first
abbrev pub invariant-loop-at : goal.invariant-loop-at
invariant-loop-at l =
    (p : ℕ) → has_bit l.words p ≡ (if nat_lt p (64 * l.at) && (nat_le l.first p && nat_lt p l.end) then false else has_bit l.fn.words p)
