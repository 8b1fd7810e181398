use Rattle.std.proofs.Common.{◌≡◌, take_all, get_or, arith}
use Rattle.std.proofs.lemmas.Nat.{le_or_l, le_or_r}
use Rattle.std.proofs.lemmas.Bool.{eqb-true, not-false}
use Rattle.std.proofs.lemmas.List.Elements.{All-more}
use Rattle.tlb_images.proofs.images.any.Goals as goal

pub loop-count-preserved : goal.loop-count-preserved
loop-count-preserved c = λ none.
    let count = get_or c.args.counts.now c.loop-count.count-index 0 in
    let bits : c.loop-count.bits ≡ 0 = omega (arith, le_or_l c.loop-count.bits count, none) in
    All-more (λ n. n ≡ 0) c.args.counts.now c.loop-count.count-index 0 c.loop-count-test.true (c.loop-count.invariant bits)
    (omega (arith, le_or_r c.loop-count.bits count, none))

pub returns : goal.returns
returns c = λ none.
    let counts = c.args.counts.now in
    let bits : c.loop-count.bits ≡ 0 = eqb-true _ _ (not-false _ none) in
    rw (take_all c.loop-count.count-index counts c.loop-count-test.false) at (c.loop-count.invariant bits)
