use Rattle.std.proofs.Common.{sym, ap, ◌∙◌, ◌&&◌}
use Rattle.std.specs.List.{list_all}
use Rattle.swap_slots.specs.SlotState.{is_zero}
use Rattle.swap_slots.proofs.SlotCopies.{tells_zero}
use Rattle.swap_slots.proofs.store.SlotStoreStore.told.Goals as goal

pub returns-then-is_zero-clause-zero : goal.returns-then-is_zero-clause-zero
returns-then-is_zero-clause-zero g c = λ told.
    let now = c.args.self.now in
    let zero = ap (λ s. list_all is_zero s.slots.pages) (sym c.self.view_is) ∙ sym c.is_zero.ensures ∙ c.if-is_zero.true in
    let tells = ap (λ s. s.device.tells) (sym c.self.view_is) ∙ sym c.tells.ensures.tells ∙ told in
    tells_zero now (ap (λ b. b && list_all is_zero now.slots.pages) tells ∙ zero)
