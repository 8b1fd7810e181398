use Rattle.std.proofs.Common.{set, refl, ap, ◌∙◌}
use Rattle.contiguity_plan.specs.Tables.{reclaimed, use_in}
use Rattle.contiguity_plan.proofs.RightTables.{AreRight-as, AreRight-claimed}
use Rattle.contiguity_plan.proofs.table.Table.claim.Goals as goal

pub returns-clause-right : goal.returns-clause-right
returns-clause-right c = λ st right.
    AreRight-as _ _ _ _ _ _ _
    (c.set_use.ensures ∙ ap (set c.args.self.now.uses.items c.args.frame)
    (c.reclaimed-value.ensures ∙ ap (reclaimed c.args.claim) (c.use_of.ensures
    ∙ ap (λ us. use_in us c.args.frame) c.deref.ensures.value)))
    refl refl (AreRight-claimed st c.args.self.now.uses.items c.args.self.now.held.items c.args.self.now.places.items right c.args.frame c.args.claim)
