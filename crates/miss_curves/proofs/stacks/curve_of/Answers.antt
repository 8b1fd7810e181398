use Rattle.std.proofs.Common.{◌≡◌, ◌+◌, ◌<◌, length, take, get_or, take_all, sym, ap, ◌∙◌, arith}
use Rattle.std.specs.List.{sum_by}
use Rattle.std.proofs.lemmas.List.{with_items_is}
use Rattle.std.proofs.lemmas.List.Sums.{sum_by_more, sum_by_more_le_part}
use Rattle.lru_stack.specs.Stacks.{Kept, missed_at}
use Rattle.miss_curves.proofs.AllStacks.{missed-all, missed-le}
use Rattle.miss_curves.proofs.stacks.curve_of.Goals as goal

pub add_to-requires-clause-fits : goal.add_to-requires-clause-fits
add_to-requires-clause-fits c = λ k below.
    let i = c.loop-stack.stack-index in
    let d = c.stack-item.result in
    let small : k < length c.args.memory.items = omega (arith, c.loop-stack.invariant.0, ap length c.deref_mut.ensures.value) in
    let sum : get_or c.deref_mut.result.now k 0 ≡ sum_by (missed_at k) (take i c.args.stacks.now) =
    ap (λ xs. get_or xs k 0) c.deref_mut.ensures.value ∙ c.loop-stack.invariant.1 k small in
    omega (
      arith,
      sum,
      ap (λ (s : Kept). s.uses) c.stack-item.is,
      c.requires.stacks.uses,
      sum_by_more_le_part (missed_at k) (λ (s : Kept). s.uses) c.args.stacks.now i d c.loop-stack-test.true (missed-le k),
    )

pub loop-stack-preserved : goal.loop-stack-preserved
loop-stack-preserved c =
    let so_far = c.loop-stack.invariant in
    let i = c.loop-stack.stack-index in
    let stack = c.stack-item.result in
    let was = c.deref_mut.ensures.value in
    let long = c.add_to.ensures.long ∙ ap length was in
    let is = with_items_is c.loop-stack.curve c.add_to.new.curve (omega (arith, long, c.loop-stack.curve.ok.0)) in (
      ap length is ∙ long ∙ so_far.0,
      λ k below.
          ap (λ xs. get_or xs k 0) is ∙ c.add_to.ensures.added k (omega (arith, ap length was, so_far.0))
          ∙ ap (λ xs. get_or xs k 0 + missed_at k stack) was ∙ ap (λ n. n + missed_at k stack) (so_far.1 k below)
          ∙ ap (λ s. sum_by (missed_at k) (take i c.args.stacks.now) + missed_at k s) c.stack-item.is
          ∙ sym (sum_by_more (missed_at k) c.args.stacks.now i stack c.loop-stack-test.true),
    )

pub returns-clause-misses : goal.returns-clause-misses
returns-clause-misses c = λ z g history each k below.
    let all : take c.loop-stack.stack-index c.args.stacks.now ≡ c.args.stacks.now =
    take_all c.loop-stack.stack-index c.args.stacks.now (omega arith) in
    c.loop-stack.invariant.1 k below ∙ ap (sum_by (missed_at k)) all
    ∙ missed-all z g history c.args.stacks.now (length c.args.memory.items) k below c.requires.stacks.places_are each
