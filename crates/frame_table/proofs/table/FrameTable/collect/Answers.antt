use Rattle.std.proofs.Common.{refl, sym, ap, ◌∙◌}
use Rattle.frame_table.specs.Refusals.{is_processor}
use Rattle.frame_table.proofs.Claims.{claims_any-none}
use Rattle.frame_table.proofs.table.FrameTable.collect.Goals as goal

pub returns-in-None-clause-refused : goal.returns-in-None-clause-refused
returns-in-None-clause-refused c =
    let st = c.self.inside.pool in
    let who = c.args.processor in
    let known = ap (λ s. is_processor s who) c.self.view_is ∙ sym c.has_processor.ensures ∙ c.if-not-has_processor.false in
    rw (← c.self.view_is, known, ← c.in_default.ensures, claims_any-none st who c.in-None.ensures.none) refl
