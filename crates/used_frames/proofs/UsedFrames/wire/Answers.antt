use Rattle.std.proofs.Common.{get_or, None}
use Rattle.used_frames.proofs.NoteChanges.{AreMutual-same, claim-wired}
use Rattle.used_frames.proofs.UsedFrames.wire.Goals as goal

pub invariant_of-self : goal.invariant_of-self
invariant_of-self c =
    let notes = c.self.inside.notes in
    rw c.set_wired.ensures
    (AreMutual-same notes _ c.self.invariant c.args.frame _ (claim-wired c.args.wired (get_or notes c.args.frame None)))
