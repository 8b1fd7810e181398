use Rattle.std.proofs.Common.{◌≡◌, ◌||◌, Bool, false, not, rules, filter, sym, ap, ◌∙◌, arith}
use Rattle.std.specs.List.{list_any}
use Rattle.std.proofs.lemmas.List.{set-get_or}
use Rattle.pager_model.specs.declared.tile.Tile.{Tile}
use Rattle.tlb_images.specs.Image.{begins_in}
use Rattle.tlb_images.proofs.CountedLemmas.{AreCounted-below, AreCounted-has, AreCounted-set, mapped-more}
use Rattle.tlb_images.proofs.ImageLemmas.{kept-outside}
use Rattle.tlb_images.proofs.images.retain_each_in.Goals as goal
use Rattle.tlb_images.proofs.images.retain_each_in.Goals.{then-any_begins_in, else-any_begins_in}

pub sift-requires-clause-counted : goal.sift-requires-clause-counted
sift-requires-clause-counted g c =
    AreCounted-has c.loop-image.begun c.loop-image.images c.loop-image.image-index c.image-item.result
    (omega arith) c.loop-image.invariant.counted

pub sift-requires-clause-room : goal.sift-requires-clause-room
sift-requires-clause-room g c = λ r below.
    omega (arith, AreCounted-below c.loop-image.begun c.loop-image.images c.loop-image.invariant.counted r below)

pub loop-image-preserved : goal.loop-image-preserved
loop-image-preserved g c = elim c.if-any_begins_in.branch [
  | then-any_begins_in w ↦ record {
    counted =
        rw (w.begun-is, w.images-is)
        (AreCounted-set c.loop-image.begun w.sift.new.begun c.loop-image.images c.loop-image.image-index w.sift.new.image c.image-item.result (omega arith) c.loop-image.invariant.counted
        w.sift.ensures.counts w.sift.ensures.short);
    kept = λ test told.
        let passes : Tile → Bool = λ t. not (begins_in c.args.range t) || test t in
        w.images-is
        ∙ mapped-more (filter passes) c.args.images.now c.loop-image.images c.loop-image.image-index c.image-item.result w.sift.new.image
        (omega arith) (c.loop-image.invariant.kept test told)
        c.image-item.is (w.sift.ensures.kept passes (λ t b answers. search (rules, told)) ∙ ap (filter passes) (sym c.image-item.is));
  }
  | else-any_begins_in w ↦ record {
    counted = rw (w.begun-is, w.images-is, set-get_or) c.loop-image.invariant.counted;
    kept = λ test told.
        let passes : Tile → Bool = λ t. not (begins_in c.args.range t) || test t in
        let tiles = c.tiles.result.now in
        let none : list_any (begins_in c.args.range) tiles ≡ false = rw c.any_begins_in.ensures at w.if-any_begins_in.false in
        let same : filter passes tiles ≡ tiles = kept-outside c.args.range test tiles none in
        w.images-is
        ∙ mapped-more (filter passes) c.args.images.now c.loop-image.images c.loop-image.image-index c.image-item.result _ (omega arith)
        (c.loop-image.invariant.kept test told)
        c.image-item.is (sym c.tiles.ensures.tiles ∙ sym same ∙ ap (filter passes) (c.tiles.ensures.tiles ∙ sym c.image-item.is));
  }
]
