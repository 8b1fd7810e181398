use Rattle.std.proofs.Common.{◌≡◌, ◌+◌, ◌∙◌, ℕ, ap, refl, true, false, Option, None, Some, nat_le, rules}
use Rattle.std.proofs.lemmas.Bool.{cond-true, cond-false, le-leb}
use Rattle.pager_model.specs.declared.call.Call.TheVariants.{Discard}
use Rattle.pager_model.specs.declared.region.Region.{Region}
use Rattle.pager_model.specs.declared.reply.Reply.TheVariants.{Done, Denied, Unmapped}
use Rattle.pager_model.specs.Regions.{end_of, discard_reply, discard_reply_at, is_wired, range_in, region_at}
use Rattle.space_core.proofs.Refusals.{begins_refused}
use Rattle.space_core.proofs.RegionChanges.{begins_discarding}
use Rattle.space_core.proofs.space.Space.begin_discard.Goals as goal

-- a range that lies in no region
in_none : (o : Option Region) (page len : ℕ) → range_in page len o ≡ false → discard_reply_at page len o ≡ Unmapped
in_none None page len out = refl
in_none (Some r) page len out = cond-false _ _ _ out

pub returns-in_default-clause-begins : goal.returns-in_default-clause-begins
returns-in_default-clause-begins g c =
    rw c.answered.ensures (λ processor. begins_refused c.args.self.now processor
    (Discard c.args.self.now.number c.args.page c.args.length) Unmapped c.requires.can c.requires.resting refl refl
    (λ st s. ap (λ rs. discard_reply rs c.args.page c.args.length) s.beside.regions
    ∙ in_none (region_at c.args.self.now.regions c.args.page) c.args.page c.args.length c.in_default.ensures.none))

pub returns-then-is_wired-clause-begins : goal.returns-then-is_wired-clause-begins
returns-then-is_wired-clause-begins g c =
    let found = c.in-Some.ensures.some in
    let fits : nat_le (c.args.page + c.args.length) (end_of c.in-Some.region) ≡ true =
    le-leb (c.args.page + c.args.length) (end_of c.in-Some.region) found.1 in
    let wired : is_wired c.in-Some.region ≡ true = search rules in
    rw c.answered-then-is_wired.ensures
    (λ processor. begins_refused c.args.self.now processor
    (Discard c.args.self.now.number c.args.page c.args.length) Denied c.requires.can c.requires.resting refl refl
    (λ st s. ap (discard_reply_at c.args.page c.args.length) (ap (λ rs. region_at rs c.args.page) s.beside.regions ∙ found.0)
    ∙ cond-true _ _ _ fits ∙ cond-true _ _ _ wired))

pub returns-clause-begins : goal.returns-clause-begins
returns-clause-begins g c =
    let found = c.in-Some.ensures.some in
    let fits : nat_le (c.args.page + c.args.length) (end_of c.in-Some.region) ≡ true =
    le-leb (c.args.page + c.args.length) (end_of c.in-Some.region) found.1 in
    let loose : is_wired c.in-Some.region ≡ false = search rules in
    let may : discard_reply c.args.self.now.regions c.args.page c.args.length ≡ Done =
    ap (discard_reply_at c.args.page c.args.length) found.0 ∙ cond-true _ _ _ fits ∙ cond-false _ _ _ loose in
    λ processor. begins_discarding c.args.self.now c.args.page c.args.length c.in-Some.region c.region_with.ensures.ordered found.0 found.1 may
