use Rattle.std.proofs.Common.{◌≡◌, ◌∙◌, ap, sym, refl, true, false, None, Some, rules}
use Rattle.std.proofs.lemmas.Bool.{cond-true}
use Rattle.pager_model.specs.declared.call.Call.TheVariants.{Unwire}
use Rattle.pager_model.specs.declared.reply.Reply.TheVariants.{Denied, Unmapped}
use Rattle.pager_model.specs.Regions.{is_wired_kind, region_at, unwire_reply_at}
use Rattle.space_core.specs.Standing.{Kept}
use Rattle.space_core.proofs.Refusals.{begins_refused}
use Rattle.space_core.proofs.RegionChanges.{begins_unwiring}
use Rattle.space_core.proofs.space.Space.begin_unwire.Goals as goal

pub returns-in_default-clause-begins : goal.returns-in_default-clause-begins
returns-in_default-clause-begins g c =
    let none : region_at c.args.self.now.regions c.args.page ≡ None =
    ap (λ (k : Kept). region_at k.regions c.args.page) (sym c.self.view_is) ∙ sym c.find.ensures.value ∙ c.in_default.is in
    rw c.answered.ensures (λ processor. begins_refused c.args.self.now processor
    (Unwire c.args.self.now.number c.args.page) Unmapped c.requires.can c.requires.resting refl refl
    (λ st s. ap unwire_reply_at (ap (λ rs. region_at rs c.args.page) s.beside.regions ∙ none)))

pub returns-then-has_wired_kind-clause-begins : goal.returns-then-has_wired_kind-clause-begins
returns-then-has_wired_kind-clause-begins g c =
    let found : region_at c.args.self.now.regions c.args.page ≡ Some c.in-Some.region =
    ap (λ (k : Kept). region_at k.regions c.args.page) (sym c.self.view_is) ∙ sym c.in-Some.ensures.value in
    let wired : is_wired_kind c.in-Some.region.kind ≡ true = search rules in
    rw c.answered-then-has_wired_kind.ensures (λ processor. begins_refused c.args.self.now processor
    (Unwire c.args.self.now.number c.args.page) Denied c.requires.can c.requires.resting refl refl
    (λ st s. ap unwire_reply_at (ap (λ rs. region_at rs c.args.page) s.beside.regions ∙ found)
    ∙ cond-true _ _ _ wired))

pub returns-clause-begins : goal.returns-clause-begins
returns-clause-begins g c =
    let found : region_at c.args.self.now.regions c.args.page ≡ Some c.in-Some.region =
    ap (λ (k : Kept). region_at k.regions c.args.page) (sym c.self.view_is) ∙ sym c.in-Some.ensures.value in
    let same = ap (λ (k : Kept). k.regions) c.self.view_is in
    let unwired : is_wired_kind c.in-Some.region.kind ≡ false = search rules in
    λ processor. begins_unwiring c.args.self.now c.args.page c.in-Some.region (rw same at c.self.invariant.ordered) found
    unwired
