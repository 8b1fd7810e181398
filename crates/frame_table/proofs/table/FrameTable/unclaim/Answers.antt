use Rattle.std.proofs.Common.{sym, ap, ◌∙◌}
use Rattle.frame_table.specs.Refusals.{claims_any}
use Rattle.frame_table.proofs.Claims.{claims_any-some}
use Rattle.frame_table.proofs.Moves.{IsTable-unclaimed}
use Rattle.frame_table.proofs.table.FrameTable.unclaim.Goals as goal

pub unclaim-requires-clause-claims : goal.unclaim-requires-clause-claims
unclaim-requires-clause-claims c =
    claims_any-some c.self.inside.pool c.args.processor
    (ap (λ s. claims_any s c.args.processor) c.self.view_is ∙ sym c.claims_any.ensures ∙ c.if-not-claims_any.false)

pub invariant_of-self : goal.invariant_of-self
invariant_of-self c = rw c.unclaim.ensures.unclaimed (IsTable-unclaimed c.self.inside.out.items c.self.inside.pool _ c.self.invariant)
