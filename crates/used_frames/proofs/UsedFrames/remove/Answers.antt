use Rattle.std.proofs.Common.{◌≡◌, Some, None, map, set, get_or, sym, refl, ap, ◌∙◌, arith}
use Rattle.pager_model.specs.FrameStates.{claim_in}
use Rattle.used_frames.specs.Kept.{AreMutual}
use Rattle.used_frames.proofs.NoteChanges.{AreMutual-cleared, AreMutual-same, claimant_known}
use Rattle.used_frames.proofs.UsedFrames.remove.Goals as goal
use Rattle.used_frames.proofs.UsedFrames.remove.Goals.{After-set}

noted : (c : After-set) → get_or c.self.inside.notes c.args.frame None ≡ Some c.unwrap-used.result
noted c = sym c.get.ensures ∙ c.unwrap-used.ensures

pub index_mut-requires : goal.index_mut-requires
index_mut-requires c =
    let after = (goal.at.index_mut-requires c).After-set in
    let known = claimant_known _ _ c.self.invariant c.args.frame c.in-Some.processor (ap claim_in (noted after) ∙ c.in-Some.is) in
    omega (arith, known, c.self.inside.claims.ok.0)

pub invariant_of-self : goal.invariant_of-self
invariant_of-self c =
    let after = (goal.at.invariant_of-self c).After-set in
    rw c.set.ensures
    (AreMutual-cleared _ _ c.self.invariant c.args.frame c.in-Some.processor None refl (ap claim_in (noted after) ∙ c.in-Some.is))

pub invariant_of-self-in_default : goal.invariant_of-self-in_default
invariant_of-self-in_default c =
    let after = (goal.at.invariant_of-self-in_default c).After-set in
    rw c.set.ensures (AreMutual-same _ _ c.self.invariant c.args.frame None (sym (ap claim_in (noted after) ∙ c.in_default.is)))
