use Rattle.std.proofs.Common.{None, sym, subst, ◌∙◌, arith}
use Rattle.bit_set.specs.Bits.{IsFirstFrom}
use Rattle.bit_set.proofs.Levels.{no_next, first_within, none_above, first_above}
use Rattle.bit_set.proofs.BitSet.first_from.Goals as goal

pub returns-then-is_some-clause-first : goal.returns-then-is_some-clause-first
returns-then-is_some-clause-first g c =
    subst (λ set. IsFirstFrom set c.args.number c.next_in_word-next.result) c.self.view_is
    (first_within c.self.inside.bits c.args.number c.next_in_word-next.result (sym c.if-is_some.ensures) c.next_in_word-next.ensures.next)

pub returns-then-is_some-clause-cost : goal.returns-then-is_some-clause-cost
returns-then-is_some-clause-cost g c = omega (arith, c.next_in_word-next.ensures.cost)

pub returns-in_err-word-clause-first : goal.returns-in_err-word-clause-first
returns-in_err-word-clause-first g c =
    let here = no_next c.self.inside.bits c.args.number c.next_in_word-next.result
    (sym c.is_some.ensures ∙ c.if-is_some.false) c.next_in_word-next.ensures.next in
    rw c.from_residual.ensures
    (subst (λ set. IsFirstFrom set c.args.number None) c.self.view_is
    (none_above c.self.inside.bits c.self.inside.words c.args.number c.self.invariant.bits_in_words here c.in_err-word.ensures.first))

pub returns-in_err-word-clause-cost : goal.returns-in_err-word-clause-cost
returns-in_err-word-clause-cost g c = omega (arith, c.next_in_word-next.ensures.cost, c.first_word_from.ensures.cost)

pub returns-clause-first : goal.returns-clause-first
returns-clause-first g c =
    let here = no_next c.self.inside.bits c.args.number c.next_in_word-next.result
    (sym c.is_some.ensures ∙ c.if-is_some.false) c.next_in_word-next.ensures.next in
    subst (λ set. IsFirstFrom set c.args.number c.next_in_word.result) c.self.view_is
    (first_above c.self.inside.bits c.self.inside.words c.args.number c.in_ok-word.word c.next_in_word.result c.self.invariant.bits_in_words here c.in_ok-word.ensures.first c.next_in_word.ensures.next)

pub returns-clause-cost : goal.returns-clause-cost
returns-clause-cost g c =
    omega (arith, c.next_in_word-next.ensures.cost, c.first_word_from.ensures.cost, c.next_in_word.ensures.cost)
