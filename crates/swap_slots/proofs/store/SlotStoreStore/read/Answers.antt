use Rattle.std.proofs.Common.{◌≡◌, true, IfSome, sym, ap, subst, ◌∙◌, arith}
use Rattle.pager_model.specs.SpaceStates.{Rises}
use Rattle.swap_slots.specs.Devices.{Device, words_at, SameWords}
use Rattle.swap_slots.specs.SlotState.{SlotState}
use Rattle.swap_slots.specs.Slots.{copy_of, slot_in}
use Rattle.swap_slots.proofs.SlotCopies.{same_copies, reads_zero, reads_slot, never_falls, capped, rises_device}
use Rattle.swap_slots.proofs.store.SlotStoreStore.read.Goals as goal

pub returns-in_default-clause-read : goal.returns-in_default-clause-read
returns-in_default-clause-read g c = λ told.
    reads_zero c.args.self.now c.args.page (sym (ap (λ s. slot_in (copy_of s.slots c.args.page)) c.self.view_is)
    ∙ sym c.in_default.ensures.slot)

pub returns-in_default-read-clause-same : goal.returns-in_default-read-clause-same
returns-in_default-read-clause-same g c =
    let after : SlotState =
    record {
      device = g.B.Blocks.device c.read.new.self;
      slots = c.self.inside.table;
      reads = c.self.inside.reads;
      writes = c.self.inside.writes;
      refused = c.self.inside.refused;
    } in
    let Same : Device → Type 0 = λ d. SameWords d after.device in
    same_copies c.args.self.now after (ap (λ s. s.slots) c.self.view_is)
    (subst Same (ap (λ s. s.device) c.self.view_is) c.read.ensures.same)

pub returns-clause-same : goal.returns-clause-same
returns-clause-same g c =
    let after : SlotState =
    record {
      device = g.B.Blocks.device c.read.new.self;
      slots = c.self.inside.table;
      reads = c.self.inside.reads;
      writes = c.self.inside.writes;
      refused = c.self.inside.refused;
    } in
    let Same : Device → Type 0 = λ d. SameWords d after.device in
    same_copies c.args.self.now after (ap (λ s. s.slots) c.self.view_is)
    (subst Same (ap (λ s. s.device) c.self.view_is) c.read.ensures.same)

pub returns-clause-read : goal.returns-clause-read
returns-clause-read g c = λ told.
    let Known : Device → Type 0 = λ d. d.tells ≡ true → IfSome (words_at d c.in-Some.slot) (λ known. c.read.new.words ≡ known) in
    reads_slot c.args.self.now c.args.page c.in-Some.slot c.read.new.words
    (sym (ap (λ s. slot_in (copy_of s.slots c.args.page)) c.self.view_is) ∙ sym c.in-Some.ensures.slot)
    (subst Known (ap (λ s. s.device) c.self.view_is) c.in-Ok.ensures.read told)

pub returns-in_default-clause-never_falls : goal.returns-in_default-clause-never_falls
returns-in_default-clause-never_falls g c = never_falls _ _ _ _ (omega (arith, ap (λ s. s.device.faults) c.self.view_is))
    (omega (arith, ap (λ s. s.refused) c.self.view_is))

pub returns-in_default-read-clause-never_falls : goal.returns-in_default-read-clause-never_falls
returns-in_default-read-clause-never_falls g c = never_falls _ _ _ _ (omega (arith, c.read.ensures.never_falls, ap (λ s. s.device.faults) c.self.view_is))
    (omega (arith, ap (λ s. s.refused) c.self.view_is))

pub returns-clause-never_falls : goal.returns-clause-never_falls
returns-clause-never_falls g c = never_falls _ _ _ _ (omega (arith, c.read.ensures.never_falls, ap (λ s. s.device.faults) c.self.view_is))
    (omega (arith, ap (λ s. s.refused) c.self.view_is))

pub returns-in_default-clause-capped : goal.returns-in_default-clause-capped
returns-in_default-clause-capped g c = capped _ _

pub returns-in_default-read-clause-capped : goal.returns-in_default-read-clause-capped
returns-in_default-read-clause-capped g c = capped _ _

pub returns-clause-capped : goal.returns-clause-capped
returns-clause-capped g c = capped _ _

pub returns-in_default-read-clause-rose : goal.returns-in_default-read-clause-rose
returns-in_default-read-clause-rose g c =
    let after : SlotState =
    record {
      device = g.B.Blocks.device c.read.new.self;
      slots = c.self.inside.table;
      reads = c.self.inside.reads;
      writes = c.self.inside.writes;
      refused = c.self.inside.refused;
    } in
    rises_device c.args.self.now after (ap (λ s. s.refused) c.self.view_is)
    (subst (λ s. Rises s.device.faults after.device.faults) c.self.view_is c.in_default-read.ensures.rose)
