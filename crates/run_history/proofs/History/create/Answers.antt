use Rattle.std.proofs.Common.{ap, ◌∙◌, refl, List}
use Rattle.pager_model.specs.declared.entry.Numbered.{Numbered}
use Rattle.run_history.proofs.KeptEntries.{IsKept-none, items_in-none}
use Rattle.run_history.proofs.History.create.Goals as goal

pub invariant_of-result : goal.invariant_of-result
invariant_of-result c = (
  IsKept-none _ _ c.in_ok-with_capacity-2.ensures.items c.in_ok-with_capacity.ensures.items,
  c.in_ok-with_capacity.ensures.capacity,
  c.in_ok-with_capacity-2.ensures.capacity,
  rw (items_in-none c.new.result.items c.in_ok-with_capacity-2.field-0.items c.in_ok-with_capacity.field-0.items c.in_ok-with_capacity.ensures.items, c.new.ensures.items) (record { hits = refl; misses = refl }),
)

pub returns : goal.returns
returns c =
    ap (λ (items : List Numbered). record { items = items; room = c.args.room })
    (items_in-none c.new.result.items c.in_ok-with_capacity-2.field-0.items c.in_ok-with_capacity.field-0.items c.in_ok-with_capacity.ensures.items ∙ c.new.ensures.items)
