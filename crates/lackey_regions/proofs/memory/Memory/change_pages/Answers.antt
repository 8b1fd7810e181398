-- the page that has no place is one of the range
use Rattle.std.proofs.Common.{◌<◌, ◌≤◌}
use Rattle.lackey_regions.proofs.Causes.{no_place}
use Rattle.lackey_regions.specs.Refusals.{Maps}
use Rattle.lackey_regions.proofs.memory.Memory.change_pages.Goals as goal

pub returns-in_err-at-clause-refused : goal.returns-in_err-at-clause-refused
returns-in_err-at-clause-refused c =
    let none = c.in_err-at.ensures.refused in
    no_place (λ page. Maps c.args.change × (c.args.first ≤ page) × (page < c.args.end)) _ _ c.from_residual.result c.in_err-at.field-0.0
    c.loop-page.page (none.1, c.loop-page.invariant.3, c.loop-page-test.true) none.0 none.2 none.3 c.from_residual.ensures.1
