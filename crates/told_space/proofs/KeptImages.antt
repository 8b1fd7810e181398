-- What each image keeps as pages change, and what a use of a tile makes of it.
use Rattle.std.proofs.Common.{◌≡◌, ◌<◌, ℕ, Bool, true, false, ◌==◌, not, ◌||◌, if◌then◌else◌, List, [], ◌∷◌, filter, map, length, set, Option, Some, None, inl, inr, refl, sym, ap, ◌∙◌}
use Rattle.std.proofs.lemmas.Bool.{cases_Bool, cases_eq, cond-true, cond-false, eq-eqb, ne_eqb}
use Rattle.std.proofs.lemmas.List.{get_or-map, length-map, get_or-set_same, get_or-set_other, length-set}
use Rattle.pager_model.specs.declared.page_range.PageRange.{PageRange}
use Rattle.pager_model.specs.declared.tile.Mapping.{Mapping}
use Rattle.pager_model.specs.declared.tile.Tile.{Tile}
use Rattle.pager_model.specs.Images.{still_tiles, touched_by}
use Rattle.pager_model.specs.SizeSets.{SizeSet}
use Rattle.pager_model.specs.Tiles.{is_tile_in}
use Rattle.tiles.specs.Sized.{KeepsOutsideIn}
use Rattle.tiles.specs.Touched.{is_touched}
use Rattle.told_space.specs.Translations.{AreTiles, AreTouched, KeepTiles, image_in, untouched_tiles}

-- two tests that are one on the tiles that pass a third
filter_alike : (had one other : Tile → Bool) (ts : List Tile) → ((t : Tile) → had t ≡ true → one t ≡ other t)
    → filter one (filter had ts) ≡ filter other (filter had ts)
filter_alike had one other [] same = refl
filter_alike had one other (t ∷ ts) same = elim (cases_Bool (had t)) [
  | inl is ↦
      ap (filter one) (cond-true _ _ _ is)
      ∙ ap (λ b. if b then t ∷ filter one (filter had ts) else filter one (filter had ts)) (same t is)
      ∙ ap (λ us. if other t then t ∷ us else us) (filter_alike had one other ts same)
      ∙ sym (ap (filter other) (cond-true _ _ _ is))
  | inr isnt ↦ ap (filter one) (cond-false _ _ _ isnt) ∙ filter_alike had one other ts same ∙ sym (ap (filter other) (cond-false _ _ _ isnt))
]

-- an image that had tiles alone keeps what is a tile still, where it is asked of those alone that begin where a tile may have gone
untouched_still : (z : SizeSet) (range : PageRange) (old new : ℕ → Option Mapping) (ts : List Tile) → KeepsOutsideIn z range old new
    → still_tiles z old ts ≡ ts → untouched_tiles z range new ts ≡ still_tiles z new ts
untouched_still z range old new ts keeps had =
    ap (untouched_tiles z range new) (sym had)
    ∙ filter_alike (is_tile_in z old) (λ t. not (is_touched range t.extent.first) || is_tile_in z new t) (is_tile_in z new) ts
    (λ t is. alike (is_touched range t.extent.first) (is_tile_in z new t) (keeps t is))
    ∙ ap (still_tiles z new) had
  where
    alike : (inside tile : Bool) → (inside ≡ false → tile ≡ true) → (not inside || tile) ≡ tile
    alike true tile keeps = refl
    alike false tile keeps = sym (keeps refl)

pub KeepTiles-untouched : (z : SizeSet) (range : PageRange) (old new : ℕ → Option Mapping) (before after : List (List Tile))
    → KeepsOutsideIn z range old new → AreTiles z old before → after ≡ map (untouched_tiles z range new) before
    → KeepTiles z new before after
KeepTiles-untouched z range old new before after keeps had is = record {
  processors = ap length is ∙ length-map before (untouched_tiles z range new);
  images = λ c known.
      ap (λ (images : List (List Tile)). image_in images c) is ∙ get_or-map (untouched_tiles z range new) before c [] [] known
      ∙ untouched_still z range old new (image_in before c) keeps (had c known);
}

-- no tile was used
pub AreTouched-none : (c : ℕ) (images : List (List Tile)) → AreTouched c None images images
AreTouched-none c images = record { processors = refl; images = λ i known. untouched (i == c) (image_in images i) }
  where
    untouched : (here : Bool) (image : List Tile) → image ≡ touched_by (if here then None else None) image
    untouched true image = refl
    untouched false image = refl

-- a tile was
pub AreTouched-set : (c : ℕ) (tile : Tile) (old new : List (List Tile)) → c < length old
    → new ≡ set old c (touched_by (Some tile) (image_in old c)) → AreTouched c (Some tile) old new
AreTouched-set c tile old new known is = record {
  processors = ap length is ∙ length-set old c (touched_by (Some tile) (image_in old c));
  images = λ i within. ap (λ (images : List (List Tile)). image_in images i) is ∙ elim (cases_eq i c) [
    | inl same ↦
        ap (image_in (set old c (touched_by (Some tile) (image_in old c)))) same
        ∙ get_or-set_same old c (touched_by (Some tile) (image_in old c)) [] known
        ∙ sym (ap (λ o. touched_by o (image_in old i)) (cond-true _ _ _ (eq-eqb i c same)) ∙ ap (λ n. touched_by (Some tile) (image_in old n)) same)
    | inr other ↦
        get_or-set_other old c i (touched_by (Some tile) (image_in old c)) [] other
        ∙ sym (ap (λ o. touched_by o (image_in old i)) (cond-false _ _ _ (ne_eqb i c other)))
  ];
}
