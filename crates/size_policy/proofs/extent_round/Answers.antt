use Rattle.std.proofs.Common.{arith}
use Rattle.std.proofs.Math.Nat.{one-le-pow, mul-mod_left}
use Rattle.size_policy.proofs.extent_round.Goals as goal

pub nonzero_div-result : goal.nonzero_div-result
nonzero_div-result c = rw c.pages-pages.ensures (one-le-pow c.args.size 8 (omega arith))

pub returns-clause-aligned : goal.returns-clause-aligned
returns-clause-aligned c = rw c.pages-pages.ensures (mul-mod_left _ _)
