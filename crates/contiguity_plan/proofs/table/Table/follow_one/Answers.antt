use Rattle.std.proofs.Common.{length, sym, subst}
use Rattle.pager_model.specs.FrameStates.{moved}
use Rattle.pager_model.specs.Legal.{frames_at}
use Rattle.pager_model.specs.Settings.{mark_of}
use Rattle.pager_model.proofs.Histories.{frames_at-named}
use Rattle.pager_laws.proofs.LegalHistories.{IsKept-legal}
use Rattle.contiguity_plan.specs.Tables.{IsRight}
use Rattle.contiguity_plan.proofs.RightTables.{AreRight-counted}
use Rattle.contiguity_plan.proofs.table.Table.follow_one.Goals as goal

pub returns-in_ok-step-clause-right : goal.returns-in_ok-step-clause-right
returns-in_ok-step-clause-right c = λ g before legal may right.
    let e = c.args.entry.now in
    let st = frames_at g before in
    subst (λ s. IsRight s c.step.new.self) (sym (frames_at-named g before e c.if-entry.true))
    (AreRight-counted (moved st e.processor e.space e.what) c.step.new.self.uses.items c.step.new.self.held.items c.step.new.self.places.items
    (c.in_ok-step.ensures.right g.frames (length g.marks) (mark_of g e.processor) st (IsKept-legal g before legal).sound right
    (may.by_frames c.if-entry.true)))
