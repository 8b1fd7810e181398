use Rattle.std.proofs.Common.{ap, length, ◌∙◌, arith}
use Rattle.std.proofs.lemmas.List.{length_push}
use Rattle.pager_core.proofs.Stores.{given_back-more}
use Rattle.pager_core.proofs.run_parts.give_back.Goals as goal

pub loop-space-preserved : goal.loop-space-preserved
loop-space-preserved g c =
    let had = c.loop-space.stores.items in
    let spaces = c.pop.new.self.items in
    let popped = c.in-Some.ensures.items in
    let more = ap length c.push_reserved.ensures.items in
    let fewer = ap length popped in
    let one_store = length_push had c.into_store.result in
    let one_space = length_push spaces c.in-Some.space in (
      given_back-more g.S.Store.seen had c.push_reserved.new.self.items c.into_store.result c.loop-space.spaces.items spaces c.in-Some.space
          popped c.push_reserved.ensures.items c.into_store.ensures ∙ c.loop-space.invariant.0,
      omega (arith, more, fewer, one_store, one_space, c.push_reserved.ensures.capacity, c.loop-space.invariant.1),
      c.push_reserved.ensures.capacity ∙ c.loop-space.invariant.2,
    )
