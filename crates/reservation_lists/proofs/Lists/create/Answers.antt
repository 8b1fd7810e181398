use Rattle.std.proofs.Common.{◌≡◌, None, replicate, rules}
use Rattle.reservation_lists.proofs.ToldMembers.{AreTold-none}
use Rattle.reservation_lists.proofs.Lists.create.Goals as goal

pub invariant_of-result : goal.invariant_of-result
invariant_of-result c =
    let listed : c.in_ok-vec.field-0.items ≡ replicate c.args.frames None =
    c.in_ok-vec.ensures.items_if_clones_equal (λ y same. search rules) in
    let base = c.in_ok-with_capacity.ensures.items in
    let small = c.in_ok-with_capacity-2.ensures.items in
    let middle = c.in_ok-with_capacity-3.ensures.items in
    (search rules, search rules, search rules, rw (base, small, middle, listed) (AreTold-none c.args.frames))
