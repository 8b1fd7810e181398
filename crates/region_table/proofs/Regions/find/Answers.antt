use Rattle.std.proofs.Common.{sym, ◌∙◌}
use Rattle.region_table.proofs.TableLemmas.{find-at_none, region_at-place, blank}
use Rattle.region_table.proofs.Regions.find.Goals as goal

pub returns-in_err-place-clause-value : goal.returns-in_err-place-clause-value
returns-in_err-place-clause-value c =
    c.from_residual.ensures ∙ sym (find-at_none _ c.args.self.now (sym c.in_err-place.ensures.value))

pub returns-clause-value : goal.returns-clause-value
returns-clause-value c =
    rw (c.deref.ensures.0 ∙ c.self.view_is)
    (sym (region_at-place c.args.self.now c.args.page c.in_ok-place.place blank (sym c.in_ok-place.ensures.value)))
