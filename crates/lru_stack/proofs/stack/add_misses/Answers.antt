use Rattle.std.proofs.Common.{◌+◌, ◌-◌, ◌<◌, length, get_or, inl, inr, ◌∙◌, arith}
use Rattle.std.proofs.lemmas.Bool.{cases_eq}
use Rattle.std.proofs.lemmas.List.{get_or-set_same, get_or-set_other}
use Rattle.std.proofs.lemmas.List.Sums.{sum_by_more, sum_by_more_le}
use Rattle.lru_stack.proofs.stack.add_misses.Goals as goal

pub loop-place-preserved : goal.loop-place-preserved
loop-place-preserved c =
    let found = c.args.found.now in
    let i = c.loop-place.place in
    let row = c.loop-place.curve in
    let so_far = c.loop-place.invariant in
    let here = get_or found i 0 in
    let now = get_or row i 0 + (c.loop-place.missed - here) in
    let more = sum_by_more (λ n. n) found i 0 c.loop-place-test.true in
    let within = sum_by_more_le (λ n. n) found i 0 c.loop-place-test.true in
    let long : i < length row = omega (arith, c.loop-place.auto.curve, c.requires.long, c.loop-place-test.true) in (
      omega (arith, more, within, so_far.0, c.requires.within),
      λ k below. elim (cases_eq k i) [
        | inl same ↦ rw same (get_or-set_same row i now 0 long ∙ omega (arith, more, within, so_far.0, so_far.2 i (omega arith)))
        | inr other ↦ get_or-set_other row i k now 0 other ∙ so_far.1 k (omega arith)
      ],
      λ k from. get_or-set_other row i k now 0 (λ e. omega arith) ∙ so_far.2 k (omega arith),
    )
