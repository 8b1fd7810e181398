use Rattle.std.proofs.Common.{◌≡◌, ◌+◌, min, true, false, nat_lt, Some, None, Err, sym, ap, subst, ◌∙◌, arith}
use Rattle.std.proofs.lemmas.Bool.Decides.{nat_tests}
use Rattle.pager_model.specs.Bounds.{space_pages}
use Rattle.pager_model.specs.SpaceStates.{Rises, last_count}
use Rattle.pager_model.specs.Stored.{SameCopies, SetsCopy}
use Rattle.swap_slots.specs.declared.table.PageCopy.TheVariants.{Lost}
use Rattle.swap_slots.specs.SlotState.{SlotState, stored_slots}
use Rattle.swap_slots.specs.Slots.{Slots, SetsPage}
use Rattle.swap_slots.proofs.SlotCopies.{sets_written, sets_failed, sets_lost, keeps_at-slots, rises_device, rises_refused, unchanged, never_falls, capped}
use Rattle.swap_slots.proofs.store.SlotStoreStore.write.Goals as goal

pub returns-then-page-ge-PAGES-clause-no_memory : goal.returns-then-page-ge-PAGES-clause-no_memory
returns-then-page-ge-PAGES-clause-no_memory g c = λ _.
    let past : nat_lt c.args.page space_pages ≡ false = grind (arith, nat_tests) in
    let now = c.args.self.now in (
      keeps_at-slots now c.args.page ∙ past,
      subst (λ s. SameCopies (stored_slots now) (stored_slots s)) (sym c.self.view_is) (unchanged now),
      ap (λ s. (stored_slots s).faults) c.self.view_is,
    )

pub returns-in-Ok-clause-wrote : goal.returns-in-Ok-clause-wrote
returns-in-Ok-clause-wrote g c =
    let inside : nat_lt c.args.page space_pages ≡ true = grind (arith, nat_tests) in
    let wrote = c.in-Ok.ensures.ok in
    let Sets : SlotState → Type 0 = λ s. SetsCopy c.args.page (Some c.args.words.now) (stored_slots s) (stored_slots c.put.new.self) in (
      subst Sets c.self.view_is (sets_written _ c.put.new.self c.args.page wrote.0 c.args.words.now c.put.ensures.own.0 wrote.1),
      keeps_at-slots c.put.new.self c.args.page ∙ inside,
    )

pub returns-in-Err-Failed-clause-failed : goal.returns-in-Err-Failed-clause-failed
returns-in-Err-Failed-clause-failed g c = λ _.
    let after = c.put.new.self in
    let is = c.in-Err-Failed.is ∙ ap (λ e. Err e) c.in-Err-Failed.field-0-is in
    let wrote = c.put.ensures.failed is in
    let Sets : SlotState → Type 0 = λ s. SetsCopy c.args.page None (stored_slots s) (stored_slots after) in
    let More : SlotState → Type 0 = λ s. Rises s.device.faults after.device.faults in (
      subst Sets c.self.view_is (sets_failed _ after c.args.page wrote.0 c.put.ensures.own.0 wrote.1),
      rises_device c.args.self.now after (c.put.ensures.refused ∙ ap (λ s. s.refused) c.self.view_is)
          (subst More c.self.view_is (c.put.ensures.rose is)),
    )

pub returns-in-Err-SlotsFull-clause-failed : goal.returns-in-Err-SlotsFull-clause-failed
returns-in-Err-SlotsFull-clause-failed g c = λ _.
    let before = c.args.self.now in
    let inside = c.self-2.inside in
    let after : SlotState =
    record {
      device = g.B.Blocks.device inside.blocks;
      slots = c.set.new.self;
      reads = inside.reads;
      writes = inside.writes;
      refused = c.saturating_add-self-inside-in-Err-SlotsFull.result;
    } in
    let is = c.in-Err-SlotsFull.is ∙ ap (λ e. Err e) c.in-Err-SlotsFull.field-0-is in
    let same = c.self-2.view_is ∙ c.put.ensures.full_same is in
    let device : after.device ≡ before.device = ap (λ s. s.device) same ∙ ap (λ s. s.device) c.self.view_is in
    let slots : inside.table ≡ before.slots = ap (λ s. s.slots) same ∙ ap (λ s. s.slots) c.self.view_is in
    let refused : inside.refused ≡ before.refused = ap (λ s. s.refused) same ∙ ap (λ s. s.refused) c.self.view_is in
    let Sets : Slots → Type 0 = λ s. SetsPage c.args.page Lost s after.slots in (
      sets_lost before after c.args.page device (subst Sets slots c.set.ensures.set),
      rises_refused before after device (c.saturating_add-self-inside-in-Err-SlotsFull.ensures ∙ ap (λ n. min (n + 1) last_count) refused),
    )

pub returns-then-page-ge-PAGES-clause-capped : goal.returns-then-page-ge-PAGES-clause-capped
returns-then-page-ge-PAGES-clause-capped g c = capped _ _

pub returns-in-Ok-clause-capped : goal.returns-in-Ok-clause-capped
returns-in-Ok-clause-capped g c = capped _ _

pub returns-in-Err-Failed-clause-capped : goal.returns-in-Err-Failed-clause-capped
returns-in-Err-Failed-clause-capped g c = capped _ _

pub returns-in-Err-SlotsFull-clause-capped : goal.returns-in-Err-SlotsFull-clause-capped
returns-in-Err-SlotsFull-clause-capped g c = capped _ _

pub returns-in-Ok-clause-never_falls : goal.returns-in-Ok-clause-never_falls
returns-in-Ok-clause-never_falls g c = never_falls _ _ _ _ (omega (arith, c.put.ensures.never_falls, ap (λ s. s.device.faults) c.self.view_is))
    (omega (arith, c.put.ensures.refused, ap (λ s. s.refused) c.self.view_is))

pub returns-in-Err-Failed-clause-never_falls : goal.returns-in-Err-Failed-clause-never_falls
returns-in-Err-Failed-clause-never_falls g c = never_falls _ _ _ _ (omega (arith, c.put.ensures.never_falls, ap (λ s. s.device.faults) c.self.view_is))
    (omega (arith, c.put.ensures.refused, ap (λ s. s.refused) c.self.view_is))
