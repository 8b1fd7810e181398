use Rattle.std.proofs.Common.{◌≡◌, ◌∙◌, ap, sym, Some, None}
use Rattle.pager_model.specs.Regions.{region_at}
use Rattle.space_core.specs.Standing.{Kept}
use Rattle.space_core.proofs.Refusals.{begins_denied, begins_unmapped, denied_needs_none, unmapped_needs_none}
use Rattle.space_core.proofs.space.Space.look_at_region.Goals as goal

pub returns-in_default : goal.returns-in_default
returns-in_default g c =
    let none : region_at c.args.self.now.regions c.args.page ≡ None =
    ap (λ (k : Kept). region_at k.regions c.args.page) (sym c.self.view_is) ∙ sym c.find.ensures.value ∙ c.in_default.is in (
      unmapped_needs_none c.args.self.now c.args.call.now c.args.page c.requires.page none,
      λ resting processor. begins_unmapped c.args.self.now processor c.args.call.now c.args.page c.requires.can resting c.requires.page none,
    )

pub returns-then-not-permits : goal.returns-then-not-permits
returns-then-not-permits g c =
    let found : region_at c.args.self.now.regions c.args.page ≡ Some c.in-Some.region =
    ap (λ (k : Kept). region_at k.regions c.args.page) (sym c.self.view_is) ∙ sym c.in-Some.ensures.value in
    let refused = rw c.rights.ensures at (sym c.permits.ensures ∙ c.if-not-permits.true) in (
      denied_needs_none c.args.self.now c.args.call.now c.args.page c.in-Some.region c.requires.page found refused,
      λ resting processor. begins_denied c.args.self.now processor c.args.call.now c.args.page c.in-Some.region c.requires.can resting c.requires.page found refused,
    )
