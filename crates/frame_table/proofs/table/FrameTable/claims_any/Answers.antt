use Rattle.std.proofs.Common.{ap, ◌∙◌}
use Rattle.frame_table.specs.Refusals.{claims_any}
use Rattle.frame_table.proofs.Claims.{is_claimed_by}
use Rattle.frame_table.proofs.table.FrameTable.claims_any.Goals as goal

pub returns : goal.returns
returns c =
    c.is_some.ensures ∙ is_claimed_by c.self.inside.pool c.args.processor c.claimed_by.result c.claimed_by.ensures.found c.claimed_by.ensures.none
    ∙ ap (λ st. claims_any st c.args.processor) c.self.view_is
