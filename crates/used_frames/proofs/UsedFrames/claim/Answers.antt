use Rattle.std.proofs.Common.{◌<◌, length, ap, arith}
use Rattle.used_frames.specs.Noted.{Noted}
use Rattle.used_frames.proofs.NoteChanges.{AreMutual-claims, unlisted}
use Rattle.used_frames.proofs.UsedFrames.claim.Goals as goal

pub invariant_of-self : goal.invariant_of-self
invariant_of-self c =
    let inside = c.self.inside in
    let known : c.args.processor < length inside.claims.items = omega
    (arith, ap (λ (st : Noted). st.processors) c.self.view_is, c.requires.known) in
    let nothing = unlisted _ _ c.self.invariant c.args.processor (rw (← c.self.view_is) at c.requires.nothing) in
    rw c.set_claim.ensures
    (AreMutual-claims inside.notes inside.claims.items c.self.invariant c.args.frame c.args.processor
    (rw (← c.self.view_is) at c.requires.used) known (rw (← c.self.view_is) at c.requires.unclaimed) nothing)
