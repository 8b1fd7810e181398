use Rattle.std.proofs.Common.{◌∙◌, ap, sym}
use Rattle.space_core.specs.Standing.{Kept}
use Rattle.space_core.proofs.SameView.{same_regions}
use Rattle.space_core.proofs.GivenPages.{evicts, evicting_only, evicting_unbehind}
use Rattle.space_core.proofs.space.Space.evict.Goals as goal

pub returns : goal.returns
returns g c =
    let e = c.take.ensures in
    let r = rw (← c.self.view_is) at c.requires in
    rw (c.answered.ensures, c.copied-reply.ensures, ← c.self.view_is)
    (evicts _ c.take.new.self c.args.page c.take.result.number
    (record {
      only = evicting_only _ c.args.page r;
      unbehind = evicting_unbehind _ c.args.page r;
      had = e.taken;
      moves = e.maps;
      retouched = record {
        sizes = e.retouched.sizes;
        processors = e.retouched.processors;
        images = e.retouched.images;
        promotions = e.retouched.promotions;
        demotions = e.retouched.demotions;
      };
      resting = record {
        none_pending = ap (λ (k : Kept). k.pending) e.same ∙ r.none_pending;
        none_clearing = ap (λ (k : Kept). k.clearing) e.same ∙ r.none_clearing;
        none_paged = ap (λ (k : Kept). k.paged) e.same;
      };
      same = same_regions _ _ (ap (λ (k : Kept). k.number) e.same) (ap (λ (k : Kept). k.frames) e.same) e.retouched.processors
          (ap (λ (k : Kept). k.regions) e.same) e.maps.same.own;
      same_store = record {
        store = ap (λ (k : Kept). k.store) e.same;
        unread = ap (λ (k : Kept). k.reads) e.same;
        unwritten = ap (λ (k : Kept). k.writes) e.same;
      };
    })
    c.is_dirty.result (sym c.is_dirty.ensures.dirty) r.unwired)
