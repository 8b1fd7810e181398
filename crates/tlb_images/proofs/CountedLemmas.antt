-- The counts of tiles by remainder, as tiles come and go.
use Rattle.std.proofs.Common.{◌≡◌, ℕ, ◌+◌, ◌-◌, ◌%◌, ◌<◌, ◌≤◌, true, false, if◌then◌else◌, cond, take, drop, List, [], ◌∷◌, ◌++◌, length, map, not, get_or, set, filter, refl, sym, ap, ◌∙◌, replicate, length-set, length-take, length-drop, get_or-take, get_or-drop, arith}
use Rattle.std.specs.List.{All, list_any}
use Rattle.std.proofs.lemmas.Bool.{eq-eqb, false_from_ne_true}
use Rattle.std.proofs.lemmas.List.Elements.{All-weaker, All-set, All-replicate}
use Rattle.std.proofs.lemmas.List.{length-replicate}
use Rattle.std.proofs.lemmas.List.Edits.{map_over_more}
use Rattle.std.proofs.lemmas.List.Folds.{list_any_none, sum_by-replicate}
use Rattle.std.proofs.lemmas.List.Sums.{count_by-le-length, get_or-le-sum_by, sum_by-le, sum_by-set, sum_by_more}
use Rattle.pager_model.specs.declared.tile.Tile.{Tile}
use Rattle.pager_model.specs.declared.page_range.PageRange.{PageRange}
use Rattle.pager_model.specs.Images.{image_capacity, touched}
use Rattle.pager_model.specs.Tiles.{same_tile}
use Rattle.pager_model.proofs.Lists.{get_or-alike}
use Rattle.pager_model.proofs.Ranges.{in_bounds}
use Rattle.pager_model.proofs.TileParts.{same_tile-true}
use Rattle.tlb_images.specs.Counted.{remainders, is_of_class, class_count, AreCounted, HasCounts, AreBelow, Recounts, NoneBegins}

-- where there is no tile none is counted
pub AreCounted-new : (begun : List ℕ) (images : List (List Tile)) (count n : ℕ) → begun ≡ replicate count 0 → count ≡ remainders
    → images ≡ replicate n [] → n ≤ 17 → AreCounted begun images
AreCounted-new begun images count n none all is few = record {
  few = rw (is, length-replicate) few;
  short = rw is (All-replicate (λ (image : List Tile). length image ≤ image_capacity) n [] (omega arith));
  all = rw none (length-replicate count 0 ∙ all);
  each = λ r below. rw (none, is) (get_or-alike count r 0 ∙ sym (sum_by-replicate (class_count r) n [] ∙ omega arith));
}

-- the counts have room for a tile more
pub AreCounted-below : (begun : List ℕ) (images : List (List Tile)) → AreCounted begun images → AreBelow 65535 begun
AreCounted-below begun images counted r below =
    let each : All (λ image. class_count r image ≤ 128) images =
    All-weaker (λ image. length image ≤ image_capacity) (λ image. class_count r image ≤ 128)
    (λ image short. omega (arith, short, count_by-le-length (is_of_class r) image)) images counted.short in
    omega (arith, counted.each r below, counted.few, sum_by-le (class_count r) 128 images each)

-- each image is counted
pub AreCounted-has : (begun : List ℕ) (images : List (List Tile)) (i : ℕ) (d : List Tile) → i < length images → AreCounted begun images
    → HasCounts begun (get_or images i d)
AreCounted-has begun images i d below counted = record {
  all = counted.all;
  each = λ r bound. omega (arith, counted.each r bound, get_or-le-sum_by (class_count r) images i d below);
}

-- one image is another, and the counts follow it
pub AreCounted-set : (begun counts : List ℕ) (images : List (List Tile)) (i : ℕ) (image d : List Tile) → i < length images
    → AreCounted begun images
    → Recounts begun counts (get_or images i d) image → length image ≤ image_capacity → AreCounted counts (set images i image)
AreCounted-set begun counts images i image d below counted recounts short = record {
  few = omega (arith, length-set images i image, counted.few);
  short = All-set (λ t. length t ≤ image_capacity) images i image short counted.short;
  all = recounts.all ∙ counted.all;
  each = λ r bound. omega (arith, counted.each r bound, recounts.each r bound, sum_by-set (class_count r) images i image d below);
}

-- a tile of a remainder that none is counted of stands nowhere
pub absent-uncounted : (t : Tile) (ts : List Tile) → class_count (t.extent.first % remainders) ts ≡ 0 → list_any (same_tile t) ts ≡ false
absent-uncounted t ts none =
    let r = t.extent.first % remainders in
    let weight : Tile → ℕ = λ u. if is_of_class r u then 1 else 0 in
    list_any_none (same_tile t) ts (λ k d below. false_from_ne_true _ (λ same.
    let here : is_of_class r (get_or ts k d) ≡ true = eq-eqb _ _ (ap (λ u. u.extent.first % remainders)
    (sym (same_tile-true t (get_or ts k d) same))) in
    let one : weight (get_or ts k d) ≡ 1 = ap (λ b. if b then 1 else 0) here in
    omega (arith, one, none, get_or-le-sum_by weight ts k d below)))

-- where no count of the remainders of a range is above zero, no tile begins in it
pub NoneBegins-uncounted : (begun : List ℕ) (images : List (List Tile)) (range : PageRange) (n : ℕ) → AreCounted begun images
    → range.length ≤ remainders - range.first % remainders → n ≡ range.length
    → All (λ m. m ≡ 0) (take n (drop (range.first % remainders) begun)) → NoneBegins range images
NoneBegins-uncounted begun images range n counted within is zeros k d below j e inside =
    let image = get_or images k d in
    let t = get_or image j e in
    let first = range.first % remainders in
    let r = t.extent.first % remainders in
    false_from_ne_true _ (λ begins.
    let bounds = in_bounds range.first range.length t.extent.first begins in
    let place : first + (t.extent.first - range.first) ≡ r = omega (arith, bounds, within) in
    let zero : get_or begun r 0 ≡ 0 =
    rw (← place) (sym (get_or-take n (drop first begun) (t.extent.first - range.first) 0 (omega arith)
    ∙ get_or-drop first begun (t.extent.first - range.first) 0) ∙ zeros (t.extent.first - range.first) 0
    (omega (arith, length-take n (drop first begun), length-drop first begun, counted.all))) in
    let weight : Tile → ℕ = λ u. if is_of_class r u then 1 else 0 in
    let one : weight t ≡ 1 = ap (λ b. if b then 1 else 0) (eq-eqb r r refl) in
    omega (
      arith,
      zero,
      one,
      counted.each r (omega arith),
      get_or-le-sum_by (class_count r) images k d below,
      get_or-le-sum_by weight image j e inside,
    ))

-- an image more is what f makes of it, as the loops over images go on
pub mapped-more : (f : List Tile → List Tile) (old images : List (List Tile)) (i : ℕ) (image new : List Tile) → i < length old
    → images ≡ map f (take i old) ++ drop i old → image ≡ get_or images i image → new ≡ f image
    → set images i new ≡ map f (take (i + 1) old) ++ drop (i + 1) old
mapped-more f old images i image new below is at to = rw to (map_over_more f old images i image below is at)

pub touched-short : (t : Tile) (ts : List Tile) → length (touched t ts) ≤ image_capacity
touched-short t ts = omega (arith, length-take image_capacity (t ∷ filter (λ u. not (same_tile t u)) ts))

-- one tile more
pub class_more : (r : ℕ) (tiles : List Tile) (i : ℕ) (t : Tile) → i < length tiles → t ≡ get_or tiles i t
    → class_count r (take (i + 1) tiles) ≡ class_count r (take i tiles) + class_count r (t ∷ [])
class_more r tiles i t within is =
    omega (arith, sum_by_more (λ u. cond (is_of_class r u) 1 0) tiles i t within, ap (λ u. class_count r (u ∷ [])) is)
