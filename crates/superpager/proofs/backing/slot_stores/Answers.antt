use Rattle.std.proofs.Common.{[], ◌∷◌, Some, length, ap, ◌∙◌, arith}
use Rattle.std.proofs.lemmas.List.{length-append, length-replicate}
use Rattle.std.proofs.lemmas.List.Elements.{All-push}
use Rattle.pager_model.specs.Stored.{zero_words}
use Rattle.swap_slots.specs.BlocksState.{BlocksState}
use Rattle.swap_slots.specs.SlotState.{SlotState}
use Rattle.superpager.specs.NewStores.{IsNewSlots}
use Rattle.superpager.proofs.backing.slot_stores.Goals as goal

pub loop-preserved : goal.loop-preserved
loop-preserved c =
    let before = c.loop.stores.items in
    let store = c.in-Ok.store in
    let made = c.in-Ok.ensures.made in
    let blocks = c.in_ok-blocks.ensures.made in
    let count = ap (λ (b : BlocksState). length b.slots) blocks ∙ length-replicate c.args.slots (Some zero_words) in
    let is : IsNewSlots c.args.slots store = record {
      device = ap (λ (s : SlotState). s.device.slots) made ∙ count;
      used = ap (λ (s : SlotState). s.slots.count) made ∙ count;
      no_page = ap (λ (s : SlotState). s.slots.pages) made;
      no_fault = ap (λ (s : SlotState). s.device.faults) made ∙ ap (λ (b : BlocksState). b.faults) blocks;
      unread = ap (λ (s : SlotState). s.reads) made;
      unwritten = ap (λ (s : SlotState). s.writes) made;
      unrefused = ap (λ (s : SlotState). s.refused) made;
    } in
    record {
      count = omega (arith, ap length c.in_ok-push.ensures.items, length-append before (store ∷ []), c.loop.invariant.count);
      new = rw c.in_ok-push.ensures.items (All-push (IsNewSlots c.args.slots) before store c.loop.invariant.new is);
    }
