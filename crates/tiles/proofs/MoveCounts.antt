-- The moves by some sizes of a change of one page, and of changes in blocks that lie apart.
use Rattle.std.proofs.Common.{◌≡◌, ℕ, ◌+◌, ◌/◌, ◌≤◌, ◌<◌, ◌⊎◌, Bool, true, false, if◌then◌else◌, ◌||◌, nat_lt, is_some, max, Option, Some, None, refl, sym, ap, inl, inr, ◌∙◌, arith}
use Rattle.std.proofs.lemmas.Bool.{ne_eqb}
use Rattle.std.proofs.lemmas.Bool.Decides.{nat_tests}
use Rattle.std.proofs.lemmas.Option.{none-some}
use Rattle.pager_model.specs.Bounds.{space_pages}
use Rattle.pager_model.specs.declared.tile.Mapping.{Mapping}
use Rattle.pager_model.specs.declared.tile.Tile.{Tile}
use Rattle.pager_model.specs.SizeSets.{SizeSet}
use Rattle.pager_model.specs.Tiles.{tile_of, is_tile_in, is_promoted_in, promotions_in, demotions_in}
use Rattle.pager_model.proofs.CountLemmas.{weight}
use Rattle.tiles.specs.declared.moves.Moves.{Moves}
use Rattle.tiles.specs.Beside.{OthersSame}
use Rattle.tiles.specs.Blocks.{is_grown_at}
use Rattle.tiles.specs.Changes.{moves_between, touched_of}
use Rattle.tiles.specs.Resident.{Resident, mapping_at, Maps}
use Rattle.tiles.specs.Sized.{AreMovesIn, KeepsOutsideIn, size_by}
use Rattle.tiles.specs.Touched.{IsInSpace, extent_range, is_touched}
use Rattle.tiles.proofs.SizeChanges.{others_back, promotions_one, promotions_same}
use Rattle.tiles.proofs.SizedTiles.{by_small, local_by, none_grown, promoted_test}
use Rattle.tiles.proofs.Counting.{count_pages-is, count_pages_most, count-sum}
use Rattle.tiles.proofs.Largest.{tiles}
use Rattle.tiles.proofs.TouchedTiles.{extent_in_space, outside_larger, outside_none}

pub others_same : (r s : Resident) (page : ℕ) (given : Option Mapping) → Maps page given r s → OthersSame page (mapping_at r) (mapping_at s)
others_same r s page given maps p apart = maps.at p ∙ ap (λ (b : Bool). if b then given else mapping_at r p) (ne_eqb p page apart)

-- ---- one page

module _ (z : SizeSet) (old new : ℕ → Option Mapping) where
  module _ (page : ℕ) (others : OthersSame page old new) (in_space : page < space_pages) where
    abbrev before : ℕ
    before = size_by z old page

    abbrev after : ℕ
    after = size_by z new page

    low : max before after ≤ 3
    low = omega (arith, by_small z old page, by_small z new page)

    -- a page without a tile isn't resident
    absent : (o : Option Tile) → o ≡ tile_of old page → is_some o ≡ false → old page ≡ None
    absent None at none = elim (tiles old page) [ inl is ↦ is.absent | inr tile ↦ absurd (none-some _ (at ∙ tile.is)) ]
    absent (Some t) at none = absurd (cc)

    -- no tile goes where the page had none and makes no larger one
    touches : (o : Option Tile) → o ≡ tile_of old page → IsInSpace (touched_of page o before after)
        × KeepsOutsideIn z (touched_of page o before after) old new
    touches o at = by (is_some o || nat_lt 0 after) refl
      where
        neither : (a b : Bool) → (a || b) ≡ false → (a ≡ false) × (b ≡ false)
        neither true b e = absurd (cc)
        neither false b e = (refl, e)

        by : (b : Bool) → (is_some o || nat_lt 0 after) ≡ b → IsInSpace
            (if b then extent_range (max before after) page else record { first = 0; length = 0 })
            × KeepsOutsideIn z (if b then extent_range (max before after) page else record { first = 0; length = 0 }) old new
        by true e = (extent_in_space (max before after) page low in_space, outside_larger z old new page others)
        by false e =
            let none = neither (is_some o) (nat_lt 0 after) e in
            let small : after ≡ 0 = grind (arith, nat_tests, none.1) in
            (omega arith, outside_none z old new page others (record { first = 0; length = 0 }) (absent o at none.0) small)

    -- one move of the page's tile
    pub moves_one : (o : Option Tile) → o ≡ tile_of old page → AreMovesIn z old new (moves_between page o before after)
    moves_one o at =
        let touched = touches o at in
        record {
          promotions = sym (promotions_one z old new page others in_space);
          demotions = sym (promotions_one z new old page (others_back old new page others) in_space);
          in_space = touched.0;
          outside = touched.1;
        }

  -- nothing moves where nothing changes
  pub moves_same : (moves : Moves) → ((p : ℕ) → new p ≡ old p) → moves.promotions ≡ 0 → moves.demotions ≡ 0 → IsInSpace moves.touched
      → AreMovesIn z old new moves
  moves_same moves same no_promotion no_demotion in_range = record {
    in_space = in_range;
    outside = λ u is out. ap (λ (pages : ℕ → Option Mapping). is_tile_in z pages u) (let one : new ≡ old = λ i p. same p i in one) ∙ is;
    promotions = no_promotion ∙ sym (promotions_same z old new same);
    demotions = no_demotion ∙ sym (promotions_same z new old (λ p. sym (same p)));
  }

-- ---- two changes

-- in each block of 512 pages one of two changes leaves all as it was
abbrev pub LieApart : (old mid new : ℕ → Option Mapping) → Type 0
LieApart old mid new = (block : ℕ) → ((p : ℕ) → p / 512 ≡ block → mid p ≡ old p) ⊎ ((p : ℕ) → p / 512 ≡ block → new p ≡ mid p)

-- so it is where they are taken back
apart_back : (old mid new : ℕ → Option Mapping) → LieApart old mid new → LieApart new mid old
apart_back old mid new apart block = elim (apart block) [
  | inl first ↦ inr (λ p at. sym (first p at))
  | inr second ↦ inl (λ p at. sym (second p at))
]

-- their moves add up
promotions_add : (z : SizeSet) (old mid new : ℕ → Option Mapping) → LieApart old mid new
    → promotions_in z old new ≡ promotions_in z old mid + promotions_in z mid new
promotions_add z old mid new apart = at space_pages refl
  where
    each : (q : ℕ) → weight (is_promoted_in z old new q) ≡ weight (is_promoted_in z old mid q) + weight (is_promoted_in z mid new q)
    each q = elim (apart (q / 512)) [
      | inl first ↦
          let same : size_by z mid q ≡ size_by z old q = local_by z old mid q first in
          let one : is_promoted_in z old new q ≡ is_promoted_in z mid new q = promoted_test z old new q
          ∙ ap (λ n. is_grown_at q n (size_by z new q)) (sym same) ∙ sym (promoted_test z mid new q) in
          omega (arith, ap weight one, ap weight (none_grown z old mid q (omega (arith, same))))
      | inr second ↦
          let same : size_by z new q ≡ size_by z mid q = local_by z mid new q second in
          let one : is_promoted_in z old new q ≡ is_promoted_in z old mid q = promoted_test z old new q
          ∙ ap (λ n. is_grown_at q (size_by z old q) n) same ∙ sym (promoted_test z old mid q) in
          omega (arith, ap weight one, ap weight (none_grown z mid new q (omega (arith, same))))
    ]

    at : (many : ℕ) → many ≡ space_pages → promotions_in z old new ≡ promotions_in z old mid + promotions_in z mid new
    at many e =
        omega (
          arith,
          count_pages-is (is_promoted_in z old new) many e,
          count_pages-is (is_promoted_in z old mid) many e,
          count_pages-is (is_promoted_in z mid new) many e,
          count-sum (is_promoted_in z old new) (is_promoted_in z old mid) (is_promoted_in z mid new) 0 many (λ q low high. each q),
        )

demotions_add : (z : SizeSet) (old mid new : ℕ → Option Mapping) → LieApart old mid new
    → demotions_in z old new ≡ demotions_in z old mid + demotions_in z mid new
demotions_add z old mid new apart = omega (arith, promotions_add z new mid old (apart_back old mid new apart))

pub moves_more : (z : SizeSet) (old mid new : ℕ → Option Mapping) (so_far more all : Moves) → LieApart old mid new
    → AreMovesIn z old mid so_far → AreMovesIn z mid new more → all.promotions ≡ so_far.promotions + more.promotions
    → all.demotions ≡ so_far.demotions + more.demotions → IsInSpace all.touched
    → ((p : ℕ) → is_touched all.touched p ≡ false → (is_touched so_far.touched p ≡ false) × (is_touched more.touched p ≡ false))
    → AreMovesIn z old new all
moves_more z old mid new so_far more all apart moved moves promoted demoted in_range touched = record {
  promotions = omega (arith, promotions_add z old mid new apart, promoted, moved.promotions, moves.promotions);
  demotions = omega (arith, demotions_add z old mid new apart, demoted, moved.demotions, moves.demotions);
  in_space = in_range;
  outside = λ u is out. let neither = touched u.extent.first out in moves.outside u (moved.outside u is neither.0) neither.1;
}

pub moves_fit : (z : SizeSet) (old mid new : ℕ → Option Mapping) (so_far more : Moves) → LieApart old mid new
    → AreMovesIn z old mid so_far → AreMovesIn z mid new more → (so_far.promotions + more.promotions ≤ space_pages)
    × (so_far.demotions + more.demotions ≤ space_pages)
moves_fit z old mid new so_far more apart moved moves = (
  omega (
    arith,
    promotions_add z old mid new apart,
    moved.promotions,
    moves.promotions,
    count_pages_most (is_promoted_in z old new),
  ),
  omega (arith, demotions_add z old mid new apart, moved.demotions, moves.demotions, count_pages_most (is_promoted_in z new old)),
)
