use Rattle.std.proofs.Common.{◌≡◌, ◌∙◌, ap, sym, Some, None, arith, refl}
use Rattle.std.proofs.lemmas.Option.{same_Some}
use Rattle.pager_model.specs.declared.region.Region.{Region}
use Rattle.space_core.specs.Standing.{Kept, range_of}
use Rattle.space_core.proofs.SameView.{as_fields}
use Rattle.space_core.proofs.ClearedRanges.{LosesRegion, loses_rights, unmaps, unmap_mapped}
use Rattle.space_core.proofs.RegionChanges.{changed_kept}
use Rattle.region_table.proofs.RegionRights.{unmap_owned}
use Rattle.region_table.proofs.RegionSearch.{found_page}
use Rattle.space_core.specs.Tables.{own_in}
use Rattle.space_core.proofs.space.Space.unmap.Goals as goal

pub forget_rights-requires : goal.forget_rights-requires
forget_rights-requires g c =
    omega (arith, found_page c.self.inside.regions c.self.invariant.ordered.in_order c.args.page c.in-Ok.region c.in-Ok.ensures.region)

pub invariant_of-self : goal.invariant_of-self
invariant_of-self g c =
    let old = as_fields c.self.view_is in
    let u = c.forget_rights.new.self in
    let pending : c.self.inside.pending ≡ None = ap (λ (k : Kept). k.pending) c.self.view_is ∙ c.requires.none_pending in
    let cleared = rw (← c.self.view_is) at c.requires.cleared in
    let region : cleared.0 ≡ c.in-Ok.region = same_Some _ _ (sym cleared.1 ∙ c.in-Ok.ensures.region) in
    let loses : LosesRegion old u c.args.page c.in-Ok.region =
    record {
      ordered = c.self.invariant.ordered;
      at = c.in-Ok.ensures.region;
      none = rw region at cleared.3;
      forgets = c.forget_rights.ensures;
    } in
    rw c.in-Ok.ensures.after
    (changed_kept old _ u _ _ _ c.self.invariant (rw c.in-Ok.ensures.after at c.unmap.ensures.ordered)
    (unmap_owned old.regions c.args.page c.in-Ok.region (own_in old.table) (own_in u)
    (loses_rights old u c.args.page c.in-Ok.region loses) c.self.invariant.own)
    (unmap_mapped old u c.args.page c.in-Ok.region loses c.self.invariant.mapped) pending refl)

pub returns : goal.returns
returns g c =
    let old = as_fields c.self.view_is in
    let u = c.forget_rights.new.self in
    let cleared = rw (← c.self.view_is) at c.requires.cleared in
    let region : cleared.0 ≡ c.in-Ok.region = same_Some _ _ (sym cleared.1 ∙ c.in-Ok.ensures.region) in
    let loses : LosesRegion old u c.args.page c.in-Ok.region =
    record {
      ordered = c.self.invariant.ordered;
      at = c.in-Ok.ensures.region;
      none = rw region at cleared.3;
      forgets = c.forget_rights.ensures;
    } in
    rw (c.in-Ok.ensures.after, c.answered.ensures, ← c.self.view_is)
    (unmaps old _ c.args.page c.in-Ok.region
    (record {
      loses = loses;
      none_pending = rw (← c.self.view_is) at c.requires.none_pending;
      none_paged = rw (← c.self.view_is) at c.requires.none_paged;
      cleared = cleared.2 ∙ ap (λ (r : Region). Some (range_of r.first r.length)) region;
      drops = c.drop_pages.ensures.dropped;
      unread = c.drop_pages.ensures.unread;
      unwritten = c.drop_pages.ensures.unwritten;
      same = rw c.forget_rights.ensures.count refl;
    })
    (unmap_mapped old u c.args.page c.in-Ok.region loses c.self.invariant.mapped))
