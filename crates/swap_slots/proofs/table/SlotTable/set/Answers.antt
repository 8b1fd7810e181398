use Rattle.swap_slots.proofs.SlotTables.{slots, sets_page, own_after, slots_after}
use Rattle.swap_slots.proofs.table.SlotTable.set.Goals as goal

pub invariant_of-self : goal.invariant_of-self
invariant_of-self c =
    let inside = c.self.inside in
    let are = slots_after (slots inside.count inside.pages.items) c.args.page c.args.copy inside.free c.self.invariant.0 (record {
      there = rw (← c.self.view_is) at c.requires.there;
      apart = rw (← c.self.view_is) at c.requires.apart;
    }) in (
      rw (c.write_slot-2.ensures, c.write_slot.ensures, c.copy_of-before.ensures.copy, ← c.self.view_is, c.set_copy.ensures.set) are,
      c.set_copy.ensures.still_room,
      c.set_copy.ensures.still_few,
    )

pub returns-clause-set : goal.returns-clause-set
returns-clause-set c =
    let inside = c.self.inside in
    rw (c.set_copy.ensures.set, ← c.self.view_is) (sets_page (slots inside.count inside.pages.items) c.args.page c.args.copy)

pub returns-clause-own : goal.returns-clause-own
returns-clause-own c =
    let inside = c.self.inside in
    rw c.set_copy.ensures.set
    (own_after (slots inside.count inside.pages.items) c.args.page c.args.copy inside.free c.self.invariant.0 (record {
      there = rw (← c.self.view_is) at c.requires.there;
      apart = rw (← c.self.view_is) at c.requires.apart;
    }))
