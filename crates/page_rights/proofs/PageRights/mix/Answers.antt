use Rattle.std.proofs.Common.{◌≡◌, ◌∙◌, None, sym, ap, arith}
use Rattle.std.proofs.lemmas.List.{get_or_read}
use Rattle.page_rights.specs.Rights.{all_of, leaf_of}
use Rattle.page_rights.specs.contracts.PageRights.{the_view}
use Rattle.page_rights.specs.declared.block.Block.TheVariants.{Unset}
use Rattle.page_rights.proofs.BlockChanges.{mixed_known, mixed_room, mixed_tree, mixed_leaf, mixed_rights}
use Rattle.page_rights.proofs.PageRights.mix.Goals as goal

pub put_leaf-leaf-requires-clause-known : goal.put_leaf-leaf-requires-clause-known
put_leaf-leaf-requires-clause-known c =
    let number = get_or_read c.self.inside.numbers.items _ _ (omega (arith, c.self.invariant.0.numbers, c.requires)) c.index-number.ensures None in
    mixed_known (the_view c.self.inside) c.self.invariant.0 c.args.block c.requires c.index-number.result.now (sym number)

pub put_leaf-leaf-requires-clause-room : goal.put_leaf-leaf-requires-clause-room
put_leaf-leaf-requires-clause-room c =
    let number = get_or_read c.self.inside.numbers.items _ _ (omega (arith, c.self.invariant.0.numbers, c.requires)) c.index-number.ensures None in
    mixed_room (the_view c.self.inside) c.self.invariant.0 c.args.block c.requires c.index-number.result.now (sym number)

pub invariant_of-self : goal.invariant_of-self
invariant_of-self c =
    let number = get_or_read c.self.inside.numbers.items _ _ (omega (arith, c.self.invariant.0.numbers, c.requires)) c.index-number.ensures None in (
      rw (c.put_leaf-leaf.ensures.number, c.put_leaf-leaf.ensures.leaves)
          (mixed_tree (the_view c.self.inside) c.self.invariant.0 c.args.block c.requires _ c.index-number.result.now (sym number)),
      c.put_leaf-leaf.ensures.capacity,
    )

pub returns-clause-mixed : goal.returns-clause-mixed
returns-clause-mixed c =
    mixed_leaf (the_view c.self.inside) c.self.invariant.0 c.args.block c.requires c.put_leaf-leaf.result c.put_leaf-leaf.new.leaves.items

pub returns-clause-same : goal.returns-clause-same
returns-clause-same c =
    let t = the_view c.self.inside in
    let number = get_or_read c.self.inside.numbers.items _ _ (omega (arith, c.self.invariant.0.numbers, c.requires)) c.index-number.ensures None in
    let kept = get_or_read c.self.inside.blocks.items _ _ (omega (arith, c.self.invariant.0.blocks, c.requires)) c.index.ensures Unset in
    let unmixed : leaf_of t c.args.block ≡ None = ap (λ u. leaf_of u c.args.block) c.self.view_is ∙ sym c.leaf.ensures ∙ c.in_default.is in
    rw (← c.self.view_is, c.put_leaf-leaf.ensures.number, c.put_leaf-leaf.ensures.leaves)
    (mixed_rights t c.self.invariant.0 c.args.block c.requires c.rights-rights.result unmixed
    (sym (c.rights-rights.ensures ∙ ap all_of kept)) c.index-number.result.now (sym number))
