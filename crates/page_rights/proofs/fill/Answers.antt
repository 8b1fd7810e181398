use Rattle.std.proofs.Common.{◌≡◌, ◌-◌, ◌∙◌, ◌&&◌, nat_le, nat_lt, if◌then◌else◌, length, replicate, take, drop, slice_index_or, ◌++◌, ap, rules, arith}
use Rattle.std.proofs.lemmas.List.{with_items_is, length-take, length-drop, length-append, length-replicate}
use Rattle.pager_model.proofs.Lists.{filled_at}
use Rattle.page_rights.specs.declared.block.Block.TheVariants.{Unset}
use Rattle.page_rights.proofs.fill.Goals as goal

pub returns-clause-blocks : goal.returns-clause-blocks
returns-clause-blocks c b =
    let xs = c.deref_mut.result.now in
    let k = c.args.high - c.args.low in
    let was : xs ≡ c.args.blocks.now.items = c.deref_mut.ensures.value in
    let within = c.requires.within in
    let count : length (take k (drop c.args.low xs)) ≡ k = omega (
      arith,
      within,
      ap length was,
      length-take k (drop c.args.low xs),
      length-drop c.args.low xs,
    ) in
    let part = replicate k c.args.block in
    let filled : c.fill.new.self ≡ part = c.fill.ensures.after (λ y same. search rules) ∙ ap (λ n. replicate n c.args.block) count in
    let all = take c.args.low xs ++ (part ++ drop k (drop c.args.low xs)) in
    let long : length all ≡ c.args.blocks.now.len = omega (
      arith,
      c.requires.order,
      within,
      ap length was,
      c.args.blocks.now.ok.0,
      length-append (take c.args.low xs) (part ++ drop k (drop c.args.low xs)),
      length-append part (drop k (drop c.args.low xs)),
      length-replicate k c.args.block,
      length-take c.args.low xs,
      length-drop c.args.low xs,
      length-drop k (drop c.args.low xs),
    ) in
    rw filled (
    ap (λ bs. slice_index_or bs b Unset) (with_items_is c.args.blocks.now all long)
    ∙ filled_at xs c.args.low c.args.high c.args.block Unset b c.requires.order (omega (arith, within, ap length was))
    ∙ ap (λ bs. if nat_le c.args.low b && nat_lt b c.args.high then c.args.block else slice_index_or bs b Unset) was
    )
