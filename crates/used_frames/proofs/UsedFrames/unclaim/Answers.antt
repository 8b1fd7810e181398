use Rattle.std.proofs.Common.{◌≡◌, Some, None, get_or, arith}
use Rattle.pager_model.specs.FrameStates.{claim_in}
use Rattle.used_frames.proofs.NoteChanges.{AreMutual-unclaims, claimant_known}
use Rattle.used_frames.proofs.UsedFrames.unclaim.Goals as goal
use Rattle.used_frames.proofs.UsedFrames.unclaim.Goals.{After-unwrap-frame}

claims_it : (c : After-unwrap-frame) → claim_in (get_or c.self.inside.notes c.unwrap-frame.result None) ≡ Some c.args.processor
claims_it c = rw (← c.self.view_is) at (rw c.unwrap-frame.ensures at c.claimed_by.ensures.found)

pub index_mut-requires : goal.index_mut-requires
index_mut-requires c =
    let known = claimant_known _ _ c.self.invariant c.unwrap-frame.result c.args.processor
    (claims_it (goal.at.index_mut-requires c).After-unwrap-frame) in
    omega (arith, known, c.self.inside.claims.ok.0)

pub invariant_of-self : goal.invariant_of-self
invariant_of-self c =
    let inside = c.self.inside in
    let after = (goal.at.invariant_of-self c).After-unwrap-frame in
    rw c.set_claim.ensures
    (AreMutual-unclaims inside.notes inside.claims.items c.self.invariant c.unwrap-frame.result c.args.processor
    (claims_it after))
