use Rattle.std.proofs.Common.{◌∙◌, ap, refl}
use Rattle.std.proofs.lemmas.Bool.{cond-false}
use Rattle.pager_model.specs.declared.call.Call.TheVariants.{Protect}
use Rattle.pager_model.specs.declared.reply.Reply.TheVariants.{Unmapped}
use Rattle.pager_model.specs.Regions.{range_in, region_at}
use Rattle.space_core.proofs.SameView.{as_fields}
use Rattle.space_core.proofs.Refusals.{begins_refused}
use Rattle.region_table.proofs.RegionRights.{lies_in_space, protect_owned}
use Rattle.space_core.specs.Tables.{own_in}
use Rattle.space_core.proofs.RegionChanges.{protect_mapped, changed_kept, begins_protected}
use Rattle.space_core.proofs.Translations.{retouched_by}
use Rattle.space_core.proofs.space.Space.begin_protect.Goals as goal

pub protect-moves-requires : goal.protect-moves-requires
protect-moves-requires g c =
    let found = c.in-Some.ensures.some in
    lies_in_space c.args.self.now.regions c.args.page c.args.length c.region_with.ensures.ordered
    (record { region = _; at = found.0; within = found.1 })

pub returns-in_default-clause-begins : goal.returns-in_default-clause-begins
returns-in_default-clause-begins g c =
    rw c.answered.ensures (λ processor. begins_refused c.args.self.now processor
    (Protect c.args.self.now.number c.args.page c.args.length c.args.rights) Unmapped c.requires.can c.requires.resting refl tt
    (λ st s. cond-false _ _ _ (ap (λ rs. range_in c.args.page c.args.length (region_at rs c.args.page)) s.beside.regions
    ∙ c.in_default.ensures.none)))

pub invariant_of-self : goal.invariant_of-self
invariant_of-self g c =
    let old = as_fields c.self.view_is in
    let u = c.protect-moves.new.self in
    let rest = rw (← c.self.view_is) at c.requires.resting in
    let found = rw (← c.self.view_is) at c.in-Some.ensures.some in
    let e = c.protect-moves.ensures.protects in
    changed_kept old old.regions u _ _ _ c.self.invariant c.self.invariant.ordered
    (protect_owned old.regions c.args.page c.args.length c.args.rights (own_in old.table) (own_in u) c.self.invariant.ordered
    (record { region = _; at = found.0; within = found.1 }) e.own c.self.invariant.own)
    (protect_mapped old.regions old.table u c.args.page c.args.length c.args.rights e c.self.invariant.mapped)
    rest.none_pending rest.none_clearing

pub returns-clause-begins : goal.returns-clause-begins
returns-clause-begins g c =
    let rest = rw (← c.self.view_is) at c.requires.resting in
    let found = rw (← c.self.view_is) at c.in-Some.ensures.some in
    let e = c.protect-moves.ensures.protects in
    rw (c.answered-2.ensures, ← c.self.view_is)
    (begins_protected (as_fields c.self.view_is) c.follow.new.self c.args.page c.args.length c.args.rights rest
    (record { region = _; at = found.0; within = found.1 }) (rw c.follow.ensures e) c.self.invariant.mapped
    (rw (c.follow.ensures, e.count) refl)
    (rw c.follow.ensures (retouched_by _ _ c.protect-moves.result e.sizes c.protect-moves.ensures.moves refl refl refl)))
