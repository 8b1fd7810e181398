use Rattle.std.proofs.Common.{◌≡◌, ◌∙◌, ap, sym, refl, None, Some}
use Rattle.pager_model.specs.declared.call.Call.TheVariants.{Wire}
use Rattle.pager_model.specs.declared.reply.Reply.TheVariants.{Unmapped}
use Rattle.pager_model.specs.Regions.{region_at, wire_reply_at}
use Rattle.space_core.specs.Standing.{Kept}
use Rattle.space_core.proofs.Refusals.{begins_refused}
use Rattle.space_core.proofs.RegionChanges.{begins_wiring}
use Rattle.space_core.proofs.space.Space.begin_wire.Goals as goal

pub returns-in_default-clause-begins : goal.returns-in_default-clause-begins
returns-in_default-clause-begins g c =
    let none : region_at c.args.self.now.regions c.args.page ≡ None =
    ap (λ (k : Kept). region_at k.regions c.args.page) (sym c.self.view_is) ∙ sym c.find.ensures.value ∙ c.in_default.is in
    rw c.answered.ensures (λ processor. begins_refused c.args.self.now processor
    (Wire c.args.self.now.number c.args.page) Unmapped c.requires.can c.requires.resting refl refl
    (λ st s. ap wire_reply_at (ap (λ rs. region_at rs c.args.page) s.beside.regions ∙ none)))

pub returns-clause-begins : goal.returns-clause-begins
returns-clause-begins g c =
    let found : region_at c.args.self.now.regions c.args.page ≡ Some c.in-Some.region =
    ap (λ (k : Kept). region_at k.regions c.args.page) (sym c.self.view_is) ∙ sym c.in-Some.ensures.value in
    let same = ap (λ (k : Kept). k.regions) c.self.view_is in
    λ processor. begins_wiring c.args.self.now c.args.page c.in-Some.region (rw same at c.self.invariant.ordered) found
