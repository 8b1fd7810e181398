use Rattle.std.proofs.Common.{◌≡◌, rules, filter, sym, ap, ◌∙◌, arith}
use Rattle.std.specs.List.{list_all}
use Rattle.std.proofs.lemmas.List.{set-get_or}
use Rattle.std.proofs.lemmas.Iterator.{YieldsList-from_slice}
use Rattle.std.proofs.lemmas.Iterator.Search.{all_from_yields_List}
use Rattle.pager_model.proofs.Lists.{filter-all}
use Rattle.tlb_images.proofs.CountedLemmas.{AreCounted-below, AreCounted-has, AreCounted-set, mapped-more}
use Rattle.tlb_images.proofs.images.retain_each.Goals as goal
use Rattle.tlb_images.proofs.images.retain_each.Goals.{then-not-all, else-not-all}

pub sift-requires-clause-counted : goal.sift-requires-clause-counted
sift-requires-clause-counted g c =
    AreCounted-has c.loop-image.begun c.loop-image.images c.loop-image.image-index c.image-item.result
    (omega arith) c.loop-image.invariant.counted

pub sift-requires-clause-room : goal.sift-requires-clause-room
sift-requires-clause-room g c = λ r below.
    omega (arith, AreCounted-below c.loop-image.begun c.loop-image.images c.loop-image.invariant.counted r below)

pub loop-image-preserved : goal.loop-image-preserved
loop-image-preserved g c = elim c.if-not-all.branch [
  | then-not-all w ↦ record {
    counted =
        rw (w.begun-is, w.images-is)
        (AreCounted-set c.loop-image.begun w.sift.new.begun c.loop-image.images c.loop-image.image-index w.sift.new.image c.image-item.result (omega arith) c.loop-image.invariant.counted
        w.sift.ensures.counts w.sift.ensures.short);
    kept = λ test told.
        w.images-is
        ∙ mapped-more (filter test) c.args.images.now c.loop-image.images c.loop-image.image-index c.image-item.result w.sift.new.image
        (omega arith) (c.loop-image.invariant.kept test told)
        c.image-item.is (w.sift.ensures.kept test (λ t b answers. told t b (search rules)) ∙ ap (filter test) (sym c.image-item.is));
  }
  | else-not-all w ↦ record {
    counted = rw (w.begun-is, w.images-is, set-get_or) c.loop-image.invariant.counted;
    kept = λ test told.
        let tiles = c.tiles.result.now in
        let all : c.all.result ≡ list_all test tiles =
        all_from_yields_List test _ _ _ c.all.ensures.ran (YieldsList-from_slice tiles cc)
        (λ x b q k. (search rules, told x.now b (search rules))) in
        w.images-is
        ∙ mapped-more (filter test) c.args.images.now c.loop-image.images c.loop-image.image-index c.image-item.result _ (omega arith)
        (c.loop-image.invariant.kept test told)
        c.image-item.is (sym c.tiles.ensures.tiles ∙ sym (filter-all test tiles (sym all ∙ w.if-not-all.false))
        ∙ ap (filter test) (c.tiles.ensures.tiles ∙ sym c.image-item.is));
  }
]
