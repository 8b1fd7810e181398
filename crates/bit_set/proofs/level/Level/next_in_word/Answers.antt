use Rattle.std.proofs.Common.{subst, Some, ◌+◌, ◌*◌, ◌/◌}
use Rattle.bit_set.specs.Bits.{IsNextInWord}
use Rattle.bit_set.proofs.Sets.{next_by_lowest, none_by_lowest}
use Rattle.bit_set.proofs.level.Level.next_in_word.Goals as goal

pub returns-in_err-next-clause-next : goal.returns-in_err-next-clause-next
returns-in_err-next-clause-next g c =
    rw (c.from_residual.ensures, ← c.self.view_is) (none_by_lowest c.self.inside.store.words.items c.args.bit
    (rw c.get.ensures.word at c.in_err-next.ensures.none))

pub returns-clause-next : goal.returns-clause-next
returns-clause-next g c =
    let words = c.self.inside.store.words.items in
    let place = c.in_ok-next.next in
    subst (λ set. IsNextInWord set c.args.bit (Some (c.args.bit / 64 * 64 + place))) c.self.view_is
    (next_by_lowest words c.args.bit place c.in_ok-next.ensures.set.0 c.in_ok-next.ensures.set.1
    (rw c.get.ensures.word at c.in_ok-next.ensures.set.2) (rw c.get.ensures.word at c.in_ok-next.ensures.lowest))
