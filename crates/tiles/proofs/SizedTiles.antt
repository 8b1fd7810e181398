-- The tile of a page by some sizes: its size, and how it follows from the page's own mapping.
use Rattle.std.proofs.Common.{◌≡◌, ℕ, ◌+◌, ◌-◌, ◌*◌, ◌/◌, ◌%◌, ◌^◌, ◌<◌, ◌≤◌, Bool, true, false, ◌&&◌, eqb, ltb, nat_lt, Option, Some, None, option_map, refl, sym, ap, ◌∙◌, arith}
use Rattle.std.proofs.Math.Nat.{div-div-eq-div-mul, div-mul-le_self, mul-le-mul_right}
use Rattle.std.proofs.lemmas.Bool.Decides.{nat_tests}
use Rattle.std.proofs.lemmas.Nat.{pow-add}
use Rattle.pager_model.specs.declared.tile.Mapping.{Mapping}
use Rattle.pager_model.specs.declared.tile.Tile.{Tile}
use Rattle.pager_model.specs.Extents.{extent_start}
use Rattle.pager_model.specs.SizeSets.{SizeSet, has_size, size_within}
use Rattle.pager_model.specs.Tiles.{tile_of, size_at, size_in, begins_at, tile_in, tile_size_in, is_promoted_in, cut_to}
use Rattle.pager_model.proofs.ExtentLemmas.{coarser}
use Rattle.pager_model.proofs.SizeFloors.{within_at_most, has_within, within_largest}
use Rattle.tiles.specs.Beside.{whole}
use Rattle.tiles.specs.Blocks.{is_grown_at}
use Rattle.tiles.specs.Sized.{size_by, begins_large_in}
use Rattle.tiles.proofs.CutTiles.{tile_in-cut}
use Rattle.tiles.proofs.Eligible.{whole_local}
use Rattle.tiles.proofs.Extents.{StartsBelow, starts_below}
use Rattle.tiles.proofs.Largest.{HasTile, none_size, size_absent, size_alike, size_is, size_small, tile_absent, tile_by, tile_by_own, whole_beyond, whole_within, within_size}

-- an extent round a page begins no later than a smaller one
start_nested : (n k page : ℕ) → n ≤ k → extent_start k page ≤ extent_start n page
start_nested n k page le =
    let w = 8 ^ n in
    let u = 8 ^ (k - n) in
    let q = page / w in
    let sum : k ≡ n + (k - n) = omega arith in
    let width : 8 ^ k ≡ w * u = ap (λ m. 8 ^ m) sum ∙ pow-add 8 n (k - n) in
    let quotient : page / 8 ^ k ≡ q / u = ap (λ m. page / m) width ∙ sym (div-div-eq-div-mul page w u) in
    let start : page / 8 ^ k * 8 ^ k ≡ q / u * (w * u) = ap (λ m. m * 8 ^ k) quotient ∙ ap (λ m. q / u * m) width in
    let low = mul-le-mul_right w (div-mul-le_self q u) in
    omega (arith, start, low)

-- the part of a tile of a page's mapping is the smaller tile of it
part_is : (n k page : ℕ) (m : Mapping) → n ≤ k → k ≤ 3 → page % 8 ^ k ≤ m.frame
    → (record {
      extent = record { size = n; first = extent_start n page };
      frame = m.frame - page % 8 ^ k + (extent_start n page - (page - page % 8 ^ k));
      rights = m.rights;
      dirty =
          m.dirty;
    } ≡ tile_by n page m)
    × (page % 8 ^ n ≤ m.frame)
part_is n k page m le low from =
    let outer = starts_below k page low in
    let inner = starts_below n page (omega (arith, le, low)) in
    let nested = start_nested n k page le in
    let less : page % 8 ^ n ≤ page % 8 ^ k = omega (arith, outer.first, inner.first, outer.within, inner.within, nested) in
    let frame : m.frame - page % 8 ^ k + (extent_start n page - (page - page % 8 ^ k)) ≡ m.frame - page % 8 ^ n =
    omega (arith, less, from, inner.first, outer.within, inner.within) in (
      λ i. record { extent = record { size = n; first = inner.first i }; frame = frame i; rights = m.rights; dirty = m.dirty },
      omega (arith, less, from),
    )

pub within_small : (z : SizeSet) (k : ℕ) → k ≤ 3 → size_within z k ≤ 3
within_small z k low = omega (arith, within_at_most z k, low)

pub within_grows : (z : SizeSet) (a b : ℕ) → a ≤ b → size_within z a ≤ size_within z b
within_grows z a b le = within_largest z b (size_within z a) (has_within z a) (omega (arith, within_at_most z a, le))

module _ (z : SizeSet) where
  pub tile_absent_in : (pages : ℕ → Option Mapping) (page : ℕ) → pages page ≡ None → tile_in z pages page ≡ None
  tile_absent_in pages page gone = tile_in-cut z pages page ∙ ap (option_map (cut_to z page)) (tile_absent pages page gone)

  -- the tile of a resident page, by its own mapping
  tile_in_own : (pages : ℕ → Option Mapping) (page : ℕ) (m : Mapping) → pages page ≡ Some m
      → tile_in z pages page ≡ Some (tile_by (size_by z pages page) page m)
  tile_in_own pages page m at =
      let k = size_at pages page in
      let own = tile_by_own pages page m at in
      tile_in-cut z pages page ∙ ap (option_map (cut_to z page)) own.is
      ∙ ap Some (part_is (size_within z k) k page m (within_at_most z k) (size_small pages page) own.from_frame).0

  -- a page has its tile as before, where its mapping and its tile's size are as before
  pub tile_in_same : (old new : ℕ → Option Mapping) (q : ℕ) → new q ≡ old q → size_by z new q ≡ size_by z old q
      → tile_in z new q ≡ tile_in z old q
  tile_in_same old new q same size = by_own (old q) refl
    where
      by_own : (o : Option Mapping) → old q ≡ o → tile_in z new q ≡ tile_in z old q
      by_own None at = tile_absent_in new q (same ∙ at) ∙ sym (tile_absent_in old q at)
      by_own (Some m) at = tile_in_own new q m (same ∙ at) ∙ ap (λ k. Some (tile_by k q m)) size ∙ sym (tile_in_own old q m at)

  -- ---- sizes

  pub tile_size : (pages : ℕ → Option Mapping) (page : ℕ) → tile_size_in z pages page ≡ size_by z pages page
  tile_size pages page = ap size_in (tile_in-cut z pages page) ∙ cut (tile_of pages page)
    where
      cut : (o : Option Tile) → size_in (option_map (cut_to z page) o) ≡ size_within z (size_in o)
      cut None = refl
      cut (Some t) = refl

  pub by_small : (pages : ℕ → Option Mapping) (page : ℕ) → size_by z pages page ≤ 3
  by_small pages page = within_small z (size_at pages page) (size_small pages page)

  pub by_absent : (pages : ℕ → Option Mapping) (page : ℕ) → pages page ≡ None → size_by z pages page ≡ 0
  by_absent pages page gone = ap (size_within z) (size_absent pages page gone)

  -- pages of one tile have tiles of one size
  pub by_alike : (pages : ℕ → Option Mapping) (page other : ℕ) → other / 8 ^ size_by z pages page ≡ page / 8 ^ size_by z pages page
      → size_by z pages other ≡ size_by z pages page
  by_alike pages page other same =
      let s = size_at pages page in
      ap (size_within z) (size_alike pages page other (coarser (size_within z s) s other page (within_at_most z s)
      (size_small pages page) same))

  -- up to it the extents round the page are eligible, and each of these sizes that is eligible is at most it
  pub whole_up_to : (pages : ℕ → Option Mapping) (page k : ℕ) → 0 < k → k ≤ size_by z pages page → whole pages k page ≡ true
  whole_up_to pages page k above low = whole_within pages page k above (omega (arith, low, within_at_most z (size_at pages page)))

  pub at_most_size : (pages : ℕ → Option Mapping) (page k : ℕ) → k ≤ 3 → has_size z k ≡ true → whole pages k page ≡ true
      → k ≤ size_by z pages page
  at_most_size pages page k low has passes = within_largest z (size_at pages page) k has (within_size pages page k low passes)

  -- ---- which pages are the first of a tile

  starts : (q s : ℕ) → StartsBelow s q → eqb (extent_start s q) q ≡ eqb (q % 8 ^ s) 0
  starts q s at =
      let first = at.first in
      let within = at.within in
      grind (arith, nat_tests)

  -- a page with a tile begins it where it is a multiple of the tile's length
  pub begins_own : (pages : ℕ → Option Mapping) (page : ℕ) → HasTile pages page (size_at pages page)
      → begins_at page (tile_in z pages page) ≡ eqb (page % 8 ^ size_by z pages page) 0
  begins_own pages page tile =
      ap (begins_at page) (tile_in-cut z pages page ∙ ap (option_map (cut_to z page)) tile.is)
      ∙ starts page (size_by z pages page) (starts_below (size_by z pages page) page (by_small pages page))

  begins_cut : (pages : ℕ → Option Mapping) (page : ℕ) → 0 < size_by z pages page
      → begins_at page (tile_in z pages page) ≡ eqb (page % 8 ^ size_by z pages page) 0
  begins_cut pages page above = begins_own pages page (none_size pages page (omega (arith, above, within_at_most z (size_at pages page))))

  swap : (a b x y : Bool) → (y ≡ true → a ≡ x) → b ≡ y → (a && b) ≡ (y && x)
  swap true true x true f e = f refl
  swap true false x true f e = absurd (cc)
  swap false true x true f e = f refl
  swap false false x true f e = absurd (cc)
  swap true b x false f e = e
  swap false b x false f e = refl

  positive : (a b : ℕ) → ltb a b ≡ true → 0 < b
  positive a b h = grind (arith, nat_tests)

  -- a page is promoted by its tile's sizes alone
  pub promoted_test : (old new : ℕ → Option Mapping) (q : ℕ) → is_promoted_in z old new q ≡ is_grown_at q (size_by z old q)
      (size_by z new q)
  promoted_test old new q =
      let s = size_by z new q in
      let b = size_by z old q in
      let sizes : ltb (tile_size_in z old q) (tile_size_in z new q) ≡ ltb b s = ap (λ n. ltb n (tile_size_in z new q)) (tile_size old q)
      ∙ ap (ltb b) (tile_size new q) in
      swap (begins_at q (tile_in z new q)) (ltb (tile_size_in z old q) (tile_size_in z new q)) (eqb (q % 8 ^ s) 0) (ltb b s)
      (λ grew. begins_cut new q (positive b s grew)) sizes

  -- where a tile isn't larger there is no promotion
  pub none_grown : (old new : ℕ → Option Mapping) (q : ℕ) → size_by z new q ≤ size_by z old q → is_promoted_in z old new q ≡ false
  none_grown old new q le = promoted_test old new q ∙ none q (size_by z old q) (size_by z new q) le
    where
      none : (q a b : ℕ) → b ≤ a → is_grown_at q a b ≡ false
      none q a b e =
          let t : ltb a b ≡ false = grind (arith, nat_tests) in
          ap (λ x. x && eqb (q % 8 ^ b) 0) t

  -- a page begins a large tile where its tile is one, and it is a multiple of the tile's length
  pub large_test : (pages : ℕ → Option Mapping) (page : ℕ)
      → begins_large_in z pages page ≡ (nat_lt 0 (size_by z pages page) && eqb (page % 8 ^ size_by z pages page) 0)
  large_test pages page =
      let s = size_by z pages page in
      swap (begins_at page (tile_in z pages page)) (ltb 0 (tile_size_in z pages page)) (eqb (page % 8 ^ s) 0) (ltb 0 s)
      (λ large. begins_cut pages page (positive 0 s large)) (ap (ltb 0) (tile_size pages page))

-- the size of a page's tile is seen in its block
pub size_local : (old new : ℕ → Option Mapping) (q : ℕ) → ((p : ℕ) → p / 512 ≡ q / 512 → new p ≡ old p) → size_at new q ≡ size_at old q
size_local old new q same =
    let n = size_at old q in
    let alike : (k : ℕ) → k ≤ 3 → whole old k q ≡ whole new k q = λ k low. whole_local old new k q low
    (λ p joined. sym (same p (coarser k 3 p q low (omega arith) joined))) in
    size_is new q n (size_small old q) (λ positive. sym (alike n (size_small old q)) ∙ whole_within old q n positive (omega arith))
    (λ k more low. sym (alike k low) ∙ whole_beyond old q k more low)

pub local_by : (z : SizeSet) (old new : ℕ → Option Mapping) (q : ℕ) → ((p : ℕ) → p / 512 ≡ q / 512 → new p ≡ old p)
    → size_by z new q ≡ size_by z old q
local_by z old new q same = ap (size_within z) (size_local old new q same)
