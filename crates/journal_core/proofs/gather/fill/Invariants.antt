use Rattle.std.proofs.Common.{◌≡◌, vec_len, vec_capacity}
use Rattle.journal_core.proofs.gather.fill.Given as goal

abbrev pub invariant-loop-place : goal.invariant-loop-place
invariant-loop-place l = (vec_len l.history ≡ l._place) × (vec_capacity l.history ≡ vec_capacity l.fn.history)
