use Rattle.std.proofs.Common.{◌^◌, arith}
use Rattle.std.proofs.Math.Nat.{one-le-pow, mul-mod_left, div-mul-le_self, lt-div-mul-add}
use Rattle.pager_model.proofs.ExtentLemmas.{eight_pos}
use Rattle.reservations.proofs.places.start_round.Goals as goal

pub nonzero_div-result : goal.nonzero_div-result
nonzero_div-result c = rw c.pages-pages.ensures (one-le-pow c.args.size 8 (omega arith))

pub returns-clause-aligned : goal.returns-clause-aligned
returns-clause-aligned c = rw c.pages-pages.ensures (omega arith, mul-mod_left _ _)

pub returns-clause-round : goal.returns-clause-round
returns-clause-round c =
    rw c.pages-pages.ensures (div-mul-le_self c.args.frame (8 ^ c.args.size), lt-div-mul-add (eight_pos c.args.size))
