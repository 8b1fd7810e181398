use Rattle.std.proofs.Common.{refl}
use Rattle.space_core.proofs.SameView.{as_fields}
use Rattle.space_core.proofs.ServedPages.{gone_kept}
use Rattle.space_core.proofs.Translations.{retouched_by}
use Rattle.space_core.proofs.space.Space.take.Goals as goal

pub invariant_of-self : goal.invariant_of-self
invariant_of-self g c = gone_kept (as_fields c.self.view_is) c.take.new.self _ c.args.page c.self.invariant c.take.ensures.after

pub returns-clause-retouched : goal.returns-clause-retouched
returns-clause-retouched g c =
    rw (c.follow.ensures, ← c.self.view_is)
    (retouched_by _ _ c.in-Some.moves c.take.ensures.after.same.sizes c.in-Some.ensures.some.1 refl refl refl)
