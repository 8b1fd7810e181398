use Rattle.std.proofs.Common.{refl, sym, subst}
use Rattle.swap_slots.specs.Slots.{LacksSlot}
use Rattle.swap_slots.proofs.SlotTables.{slot_apart, slot_lacked}
use Rattle.swap_slots.proofs.store.SlotStore.put.Goals as goal

pub set-requires-2-clause-apart : goal.set-requires-2-clause-apart
set-requires-2-clause-apart g c =
    λ p other has. slot_apart c.self.inside.table c.args.page c.in-Some.slot p c.slot_for.ensures.own c.in-Some.ensures.slot other has

pub returns-in_default-clause-full : goal.returns-in_default-clause-full
returns-in_default-clause-full g c = (
  λ _. subst (λ s. LacksSlot s.slots c.args.page) c.self.view_is c.in_default.ensures.none,
  λ _. refl,
)

pub returns-then-is_err-clause-full : goal.returns-then-is_err-clause-full
returns-then-is_err-clause-full g c = (
  λ e. absurd (cc),
  λ lacks. absurd (slot_lacked c.self.inside.table c.args.page c.in-Some.slot c.in-Some.ensures.slot
      (subst (λ s. LacksSlot s.slots c.args.page) (sym c.self.view_is) lacks)),
)

pub returns-clause-full : goal.returns-clause-full
returns-clause-full g c = (
  λ e. absurd (cc),
  λ lacks. absurd (slot_lacked c.self.inside.table c.args.page c.in-Some.slot c.in-Some.ensures.slot
      (subst (λ s. LacksSlot s.slots c.args.page) (sym c.self.view_is) lacks)),
)
