use Rattle.std.proofs.Common.{◌∙◌, ap, refl}
use Rattle.space_core.specs.Standing.{Kept}
use Rattle.space_core.proofs.SameView.{as_fields}
use Rattle.space_core.proofs.ClearedRanges.{discards}
use Rattle.space_core.proofs.RegionChanges.{changed_kept}
use Rattle.space_core.proofs.space.Space.discard.Goals as goal

pub invariant_of-self : goal.invariant_of-self
invariant_of-self g c =
    let old = as_fields c.self.view_is in
    let kept = c.self.invariant in
    let pending = ap (λ (k : Kept). k.pending) c.self.view_is ∙ c.requires.none_pending in
    changed_kept old old.regions old.table _ _ _ kept kept.ordered kept.own kept.mapped pending refl

pub returns : goal.returns
returns g c =
    let old = as_fields c.self.view_is in
    rw (c.answered.ensures, ← c.self.view_is)
    (discards old _ c.args.page c.args.length
    (record {
      may = rw (← c.self.view_is) at c.requires.may;
      none = rw (← c.self.view_is) at c.requires.absent;
      none_pending = rw (← c.self.view_is) at c.requires.none_pending;
      none_paged = rw (← c.self.view_is) at c.requires.none_paged;
      no_other = rw (← c.self.view_is) at c.requires.no_other;
      drops = c.drop_pages.ensures.dropped;
      unread = c.drop_pages.ensures.unread;
      unwritten = c.drop_pages.ensures.unwritten;
      same = refl;
    }) c.self.invariant.mapped)
