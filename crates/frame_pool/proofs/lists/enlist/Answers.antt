use Rattle.std.proofs.Common.{sym, ◌∙◌, arith}
use Rattle.std.proofs.lemmas.Option.{none-some, same_Some}
use Rattle.frame_pool.proofs.ListsByFrame.{AreListed-enlisted, AreListed-not_enlisted}
use Rattle.frame_pool.proofs.lists.enlist.Goals as goal

pub returns-then-level-lt3-clause-listed : goal.returns-then-level-lt3-clause-listed
returns-then-level-lt3-clause-listed c = λ records may.
    rw c.insert.ensures (AreListed-enlisted c.args.sizes c.args.lists.now.lists c.args.reservations.now.used records c.args.reservation.now may
    c.in-Some.size (sym c.yields_in.ensures ∙ c.in-Some.is) (omega arith))

pub returns-else-level-lt3-clause-listed : goal.returns-else-level-lt3-clause-listed
returns-else-level-lt3-clause-listed c = λ records may.
    AreListed-not_enlisted c.args.sizes c.args.lists.now.lists c.args.reservations.now.used records c.args.reservation.now may
    (λ k yields. omega (arith, same_Some c.in-Some.size k (sym c.in-Some.is ∙ c.yields_in.ensures ∙ yields)))

pub returns-in_default-clause-listed : goal.returns-in_default-clause-listed
returns-in_default-clause-listed c = λ records may.
    AreListed-not_enlisted c.args.sizes c.args.lists.now.lists c.args.reservations.now.used records c.args.reservation.now may
    (λ k yields. absurd (none-some k (sym c.in_default.is ∙ c.yields_in.ensures ∙ yields)))
