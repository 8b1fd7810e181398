-- What a change of one page does to the sizes of the tiles.
use Rattle.std.proofs.Common.{◌≡◌, ◌≢◌, ℕ, ◌*◌, ◌/◌, ◌%◌, ◌^◌, ◌<◌, ◌≤◌, Bool, true, false, ◌&&◌, eqb, ltb, cond, Option, refl, sym, ap, inl, inr, ◌∙◌, arith}
use Rattle.std.proofs.lemmas.Bool.{cases_eq, cases_lt}
use Rattle.std.proofs.lemmas.Bool.Decides.{nat_tests}
use Rattle.pager_model.specs.Bounds.{space_pages}
use Rattle.pager_model.specs.declared.tile.Mapping.{Mapping}
use Rattle.pager_model.specs.Extents.{extent_start}
use Rattle.pager_model.specs.SizeSets.{SizeSet}
use Rattle.pager_model.specs.Tiles.{size_at, is_promoted_in, promotions_in, count_pages}
use Rattle.pager_model.proofs.ExtentLemmas.{coarser, first_of_extent}
use Rattle.pager_model.proofs.SizeFloors.{has_within}
use Rattle.tiles.specs.Beside.{OthersSame, whole}
use Rattle.tiles.specs.Sized.{size_by}
use Rattle.tiles.proofs.Eligible.{whole_alike, whole_local}
use Rattle.tiles.proofs.Counting.{count_pages_at, count_pages_none}
use Rattle.tiles.proofs.Extents.{StartsBelow, starts_below}
use Rattle.tiles.proofs.SizedTiles.{at_most_size, by_alike, by_small, none_grown, promoted_test, whole_up_to}

pub others_back : (old new : ℕ → Option Mapping) (page : ℕ) → OthersSame page old new → OthersSame page new old
others_back old new page others p n = sym (others p n)

-- an extent without the page is eligible as before
pub whole_other : (old new : ℕ → Option Mapping) (page k other : ℕ) → OthersSame page old new → k ≤ 3 → other / 8 ^ k ≢ page / 8 ^ k
    → whole old k other ≡ whole new k other
whole_other old new page k other others low apart =
    whole_local old new k other low (λ q same. sym (others q (λ e. apart (sym same ∙ ap (λ n. n / 8 ^ k) e))))

module _ (z : SizeSet) (old new : ℕ → Option Mapping) (page : ℕ) (others : OthersSame page old new) (q : ℕ) where
  -- in the page's tile nothing grows where that one doesn't, and all grows where it does
  not_grown : q / 8 ^ size_by z new page ≡ page / 8 ^ size_by z new page → size_by z new page ≤ size_by z old page
      → size_by z new q ≤ size_by z old q
  not_grown same le = elim (cases_lt 0 (size_by z new page)) [
    | inr none ↦ omega (arith, by_alike z new page q same, none)
    | inl above ↦
        let k = size_by z new page in
        let passes = whole_alike old k page q same ∙ whole_up_to z old page k above le in
        omega (arith, by_alike z new page q same, at_most_size z old q k (by_small z new page) (has_within z (size_at new page)) passes)
  ]

  grown : q / 8 ^ size_by z new page ≡ page / 8 ^ size_by z new page → size_by z old page < size_by z new page
      → size_by z old q < size_by z new q
  grown same less = elim (cases_lt (size_by z old q) (size_by z new q)) [
    | inl is ↦ is
    | inr from ↦
        let k = size_by z new page in
        let passes = sym (whole_alike old k page q same) ∙ whole_up_to z old q k (omega (arith, less))
        (omega (arith, from, by_alike z new page q same)) in
        absurd (omega (arith, less, at_most_size z old page k (by_small z new page) (has_within z (size_at new page)) passes))
  ]

  -- beside it nothing grows
  pub beside_kept : q / 8 ^ size_by z new page ≢ page / 8 ^ size_by z new page → size_by z new q ≤ size_by z old q
  beside_kept apart = elim (cases_lt 0 (size_by z new q)) [
    | inr none ↦ omega (arith, none)
    | inl above ↦
        let n = size_by z new q in
        let low = by_small z new q in
        let has = has_within z (size_at new q) in
        let passes = whole_up_to z new q n above (omega arith) in
        elim (cases_eq (q / 8 ^ n) (page / 8 ^ n)) [
          | inl joined ↦
              let le = at_most_size z new page n low has (sym (whole_alike new n page q joined) ∙ passes) in
              absurd (apart (coarser n (size_by z new page) q page le (by_small z new page) joined))
          | inr beside ↦ at_most_size z old q n low has (whole_other old new page n q others low beside ∙ passes)
        ]
  ]

  -- a page is promoted where it begins the tile of the changed page, and that one grew
  promoted_one : is_promoted_in z old new q ≡ (eqb q (extent_start (size_by z new page) page) && ltb (size_by z old page)
      (size_by z new page))
  promoted_one =
      let s = size_by z new page in
      let b = size_by z old page in
      elim (cases_eq (q / 8 ^ s) (page / 8 ^ s)) [
        | inr apart ↦ none_grown z old new q (beside_kept apart) ∙ sym (ap (λ x. x && ltb b s) (elsewhere s page q apart))
        | inl same ↦ elim (cases_lt b s) [
          | inr not ↦ none_grown z old new q (not_grown same not) ∙ sym
              (right_false (eqb q (extent_start s page)) (ltb b s) (not_less b s not))
          | inl less ↦
              promoted_test z old new q
              ∙ swapped (ltb (size_by z old q) (size_by z new q)) (eqb (q % 8 ^ size_by z new q) 0) (eqb q (extent_start s page)) (ltb b s)
              (both_less (size_by z old q) (size_by z new q) b s (grown same less) less)
              (ap (λ n. eqb (q % 8 ^ n) 0) (by_alike z new page q same)
              ∙ begins q s page (starts_below s q (by_small z new page)) (ap (λ n. n * 8 ^ s) same))
        ]
      ]
    where
      elsewhere : (k page q : ℕ) → q / 8 ^ k ≢ page / 8 ^ k → eqb q (extent_start k page) ≡ false
      elsewhere k page q apart =
          let other : q ≢ extent_start k page = λ e. apart (ap (λ n. n / 8 ^ k) e ∙ first_of_extent k page) in
          grind (arith, nat_tests)

      not_less : (a b : ℕ) → b ≤ a → ltb a b ≡ false
      not_less a b le = grind (arith, nat_tests)

      both_less : (a b c d : ℕ) → a < b → c < d → ltb a b ≡ ltb c d
      both_less a b c d less more = grind (arith, nat_tests)

      begins : (q s page : ℕ) → StartsBelow s q → extent_start s q ≡ extent_start s page → eqb (q % 8 ^ s) 0 ≡ eqb q (extent_start s page)
      begins q s page at same =
          let first = at.first in
          let within = at.within in
          grind (arith, nat_tests)

      right_false : (a b : Bool) → b ≡ false → (a && b) ≡ false
      right_false true b e = e
      right_false false b e = refl

      swapped : (a b x y : Bool) → a ≡ y → b ≡ x → (a && b) ≡ (x && y)
      swapped true true x y e f = cc
      swapped true false x y e f = cc
      swapped false true x y e f = cc
      swapped false false x y e f = cc

-- so it makes one promotion where the page's tile is larger than it was, and else none
pub promotions_one : (z : SizeSet) (old new : ℕ → Option Mapping) (page : ℕ) → OthersSame page old new → page < space_pages
    → promotions_in z old new ≡ cond (ltb (size_by z old page) (size_by z new page)) 1 0
promotions_one z old new page others in_space =
    let s = size_by z new page in
    let starts = starts_below s page (by_small z new page) in
    let first : extent_start s page < space_pages = omega (arith, starts.first) in
    let tests : is_promoted_in z old new ≡ (λ q. eqb q (extent_start s page) && ltb (size_by z old page) s) =
    λ i q. promoted_one z old new page others q i in
    ap count_pages tests ∙ count_pages_at (extent_start s page) (ltb (size_by z old page) s) first

-- no tile larger, no promotion
pub promotions_none : (z : SizeSet) (old new : ℕ → Option Mapping) → ((q : ℕ) → size_by z new q ≤ size_by z old q)
    → promotions_in z old new ≡ 0
promotions_none z old new le =
    ap count_pages (let tests : is_promoted_in z old new ≡ (λ q. false) = λ i q. none_grown z old new q (le q) i in tests)
    ∙ count_pages_none

-- a change of nothing makes and breaks no tile
pub promotions_same : (z : SizeSet) (old new : ℕ → Option Mapping) → ((p : ℕ) → new p ≡ old p) → promotions_in z old new ≡ 0
promotions_same z old new same =
    let one : new ≡ old = λ i p. same p i in
    promotions_none z old new (λ q. omega (arith, ap (λ (pages : ℕ → Option Mapping). size_by z pages q) one))
