use Rattle.std.proofs.Common.{ap, sym}
use Rattle.pager_model.specs.FrameStates.{claim_in}
use Rattle.used_frames.proofs.NoteChanges.{AreMutual-same}
use Rattle.used_frames.proofs.UsedFrames.add.Goals as goal

pub invariant_of-self : goal.invariant_of-self
invariant_of-self c =
    let unused = rw (← c.self.view_is) at c.requires.unused in
    rw c.set.ensures (AreMutual-same c.self.inside.notes _ c.self.invariant c.args.frame _ (sym (ap claim_in unused)))
