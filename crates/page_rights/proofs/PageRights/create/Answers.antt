use Rattle.std.proofs.Common.{◌≡◌, replicate, arith}
use Rattle.page_rights.specs.declared.block.Block.TheVariants.{Unset}
use Rattle.page_rights.proofs.BlockChanges.{IsTree_at_first, none_at_first}
use Rattle.page_rights.proofs.PageRights.create.Goals as goal

pub invariant_of-result : goal.invariant_of-result
invariant_of-result c =
    let blocks : c.in_ok-vec.field-0.items ≡ replicate 2048 Unset = c.in_ok-vec.ensures.items_if_clones_equal (λ y same. same) in
    (IsTree_at_first _ blocks c.in_ok-no_numbers.ensures c.in_ok-with_capacity.ensures.items, omega (arith, c.in_ok-with_capacity.ensures.exact))

pub returns : goal.returns
returns c =
    let blocks : c.in_ok-vec.field-0.items ≡ replicate 2048 Unset = c.in_ok-vec.ensures.items_if_clones_equal (λ y same. same) in
    none_at_first _ blocks c.in_ok-no_numbers.ensures c.in_ok-with_capacity.ensures.items
