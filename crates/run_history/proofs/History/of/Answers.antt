use Rattle.std.proofs.Common.{ap, arith, List}
use Rattle.pager_model.specs.declared.entry.Numbered.{Numbered}
use Rattle.run_history.proofs.KeptEntries.{IsKept-none, items_in-none}
use Rattle.run_history.proofs.History.of.Goals as goal

pub invariant_of-result : goal.invariant_of-result
invariant_of-result c = (
  IsKept-none _ _ c.new-2.ensures.items c.new.ensures.items,
  omega arith,
  omega arith,
  rw (items_in-none c.args.listed.items c.new-2.result.items c.new.result.items c.new.ensures.items, ← c.deref.ensures.value)
      (record { hits = c.accesses_in-accesses.ensures.hits; misses = c.accesses_in-accesses.ensures.misses }),
)

pub returns : goal.returns
returns c =
    ap (λ (items : List Numbered). record { items = items; room = 0 })
    (items_in-none c.args.listed.items c.new-2.result.items c.new.result.items c.new.ensures.items)
