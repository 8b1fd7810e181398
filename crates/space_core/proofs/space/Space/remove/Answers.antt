use Rattle.std.proofs.Common.{◌∙◌, ◌&&◌, not, ap}
use Rattle.pager_model.specs.Options.{is_that}
use Rattle.space_core.specs.Standing.{Kept}
use Rattle.space_core.proofs.SameView.{same_regions}
use Rattle.space_core.proofs.GivenPages.{removes, clean_only}
use Rattle.space_core.proofs.space.Space.remove.Goals as goal

pub returns : goal.returns
returns g c =
    let e = c.take.ensures in
    let none_clearing = rw (← c.self.view_is) at c.requires.none_clearing in
    let none_paged = rw (← c.self.view_is) at c.requires.none_paged in
    let clean = rw (← c.self.view_is) at c.requires.clean in
    rw (← c.self.view_is)
    (removes _ c.take.new.self c.args.page c.take.result.number
    (record {
      only = clean_only _ c.args.page none_clearing none_paged (rw (← c.self.view_is) at c.requires.no_other_pending);
      unbehind = ap (λ d. d && not (is_that c.args.page c.self.inside.paged)) clean;
      had = e.taken;
      moves = e.maps;
      retouched = record {
        sizes = e.retouched.sizes;
        processors = e.retouched.processors;
        images = e.retouched.images;
        promotions = e.retouched.promotions;
        demotions = e.retouched.demotions;
      };
      resting = record {
        none_pending = ap (λ (k : Kept). k.pending) e.same;
        none_clearing = ap (λ (k : Kept). k.clearing) e.same ∙ none_clearing;
        none_paged = ap (λ (k : Kept). k.paged) e.same ∙ none_paged;
      };
      same = same_regions _ _ (ap (λ (k : Kept). k.number) e.same) (ap (λ (k : Kept). k.frames) e.same) e.retouched.processors
          (ap (λ (k : Kept). k.regions) e.same) e.maps.same.own;
      same_store = record {
        store = ap (λ (k : Kept). k.store) e.same;
        unread = ap (λ (k : Kept). k.reads) e.same;
        unwritten = ap (λ (k : Kept). k.writes) e.same;
      };
    })
    clean none_paged)
