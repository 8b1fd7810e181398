use Rattle.std.proofs.Common.{cond, ap, ◌∙◌}
use Rattle.pager_model.specs.Regions.{in_range}
use Rattle.swap_slots.specs.declared.table.PageCopy.TheVariants.{Zero}
use Rattle.swap_slots.specs.SlotState.{SlotState}
use Rattle.swap_slots.specs.Slots.{copy_of}
use Rattle.swap_slots.proofs.SlotCopies.{drops_copies}
use Rattle.swap_slots.proofs.store.SlotStoreStore.drop_pages.Goals as goal

pub returns-clause-dropped : goal.returns-clause-dropped
returns-clause-dropped g c =
    let before = c.args.self.now in
    let after : SlotState =
    record {
      device = g.B.Blocks.device c.self.inside.blocks;
      slots = c.drop_range.new.self;
      reads = c.self.inside.reads;
      writes = c.self.inside.writes;
      refused = c.self.inside.refused;
    } in
    drops_copies before after c.args.first c.args.length (ap (λ s. s.device) c.self.view_is) (ap (λ s. s.refused) c.self.view_is)
    (λ p. c.drop_range.ensures.copies p ∙ ap (λ s. cond (in_range c.args.first c.args.length p) Zero (copy_of s.slots p)) c.self.view_is)
