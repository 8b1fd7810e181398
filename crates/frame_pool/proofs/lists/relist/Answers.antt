use Rattle.std.proofs.Common.{◌≡◌, ◌≤◌, ℕ, Some, sym, ◌∙◌, arith}
use Rattle.std.proofs.lemmas.Option.{none-some, same_Some}
use Rattle.pager_model.specs.Records.{is_used, yield_in}
use Rattle.reservation_lists.specs.Kept.{without_frame}
use Rattle.frame_pool.proofs.ListsByFrame.{AreListed-enlisted, AreListed-not_enlisted}
use Rattle.frame_pool.proofs.lists.relist.Goals as goal
use Rattle.frame_pool.proofs.lists.relist.Goals.{in_default-via-in-Some+else-level-lt3, in_default-via-in_default}

pub returns-in-Some-clause-listed : goal.returns-in-Some-clause-listed
returns-in-Some-clause-listed c = λ records may.
    let r = c.args.reservation.now in
    rw c.move_to.ensures (AreListed-enlisted c.args.sizes (without_frame r.frame c.args.lists.now.lists) c.args.reservations.now.used records r may
    c.in-Some.size (sym c.yields_in.ensures ∙ c.in-Some.is) (omega arith))

pub returns-in_default-clause-listed : goal.returns-in_default-clause-listed
returns-in_default-clause-listed c = λ records may.
    let r = c.args.reservation.now in
    let used = c.args.reservations.now.used in
    let full : (k : ℕ) → yield_in c.args.sizes (is_used used) r ≡ Some k → 3 ≤ k = λ k yields. elim c.in_default.branch [
      | in_default-via-in-Some+else-level-lt3 w ↦
          omega (arith, same_Some w.in-Some.size k (sym w.in-Some.is ∙ c.yields_in.ensures ∙ yields))
      | in_default-via-in_default w ↦ absurd (none-some k (sym w.in_default.is ∙ c.yields_in.ensures ∙ yields))
    ] in
    rw c.remove.ensures (AreListed-not_enlisted c.args.sizes (without_frame r.frame c.args.lists.now.lists) used records r may full)
