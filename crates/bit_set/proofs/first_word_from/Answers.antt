use Rattle.std.proofs.Common.{◌+◌, ◌/◌, Some, refl, sym, ◌∙◌, arith}
use Rattle.bit_set.proofs.Levels.{no_next, first_within, none_in_one_word, none_above, first_above}
use Rattle.bit_set.proofs.first_word_from.Goals as goal

pub returns-then-is_some-clause-first : goal.returns-then-is_some-clause-first
returns-then-is_some-clause-first g c =
    first_within c.args.words.now c.args.word c.next_in_word-next.result (sym c.if-is_some.ensures) c.next_in_word-next.ensures.next

pub returns-then-is_some-clause-cost : goal.returns-then-is_some-clause-cost
returns-then-is_some-clause-cost g c = omega (arith, c.next_in_word-next.ensures.cost)

pub returns-in_err-group-clause-first : goal.returns-in_err-group-clause-first
returns-in_err-group-clause-first g c =
    let here = no_next c.args.words.now c.args.word c.next_in_word-next.result
    (sym c.is_some.ensures ∙ c.if-is_some.false) c.next_in_word-next.ensures.next in
    rw c.from_residual.ensures
    (none_above c.args.words.now c.args.groups.now c.args.word c.requires.summed here
    (none_in_one_word c.args.groups.now (c.args.word / 64 + 1) c.requires.one_word c.in_err-group.ensures.next))

pub returns-in_err-group-clause-cost : goal.returns-in_err-group-clause-cost
returns-in_err-group-clause-cost g c = omega (arith, c.next_in_word-next.ensures.cost, c.next_in_word.ensures.cost)

pub returns-clause-first : goal.returns-clause-first
returns-clause-first g c =
    let here = no_next c.args.words.now c.args.word c.next_in_word-next.result
    (sym c.is_some.ensures ∙ c.if-is_some.false) c.next_in_word-next.ensures.next in
    first_above c.args.words.now c.args.groups.now c.args.word c.in_ok-group.group c.next_in_word-2.result c.requires.summed here
    (first_within c.args.groups.now (c.args.word / 64 + 1) (Some c.in_ok-group.group) refl c.in_ok-group.ensures.next)
    c.next_in_word-2.ensures.next

pub returns-clause-cost : goal.returns-clause-cost
returns-clause-cost g c =
    omega (arith, c.next_in_word-next.ensures.cost, c.next_in_word.ensures.cost, c.next_in_word-2.ensures.cost)
