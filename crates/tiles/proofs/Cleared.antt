-- What becomes of the tiles where a range's pages are cleared, and where nothing changes.
use Rattle.std.proofs.Common.{◌≡◌, ℕ, ◌/◌, ◌%◌, ◌^◌, ◌<◌, ◌≤◌, Bool, true, false, eqb, if◌then◌else◌, ◌&&◌, nat_lt, Option, Some, None, refl, sym, ap, inl, inr, ◌∙◌, arith}
use Rattle.std.proofs.lemmas.Bool.{cases_Bool, cases_lt, eqb-true}
use Rattle.std.proofs.lemmas.Bool.Decides.{nat_tests}
use Rattle.std.proofs.lemmas.Option.{none-some}
use Rattle.pager_model.specs.declared.tile.Mapping.{Mapping}
use Rattle.pager_model.specs.declared.tile.Tile.{Tile}
use Rattle.pager_model.specs.Extents.{extent_start}
use Rattle.pager_model.specs.Regions.{in_range}
use Rattle.pager_model.specs.SizeSets.{SizeSet}
use Rattle.pager_model.specs.Tiles.{tile_in, is_tile_in, size_at, tile_size_in, is_promoted_in, promotions_in, demotions_in, count_pages}
use Rattle.pager_model.proofs.SizeFloors.{has_within}
use Rattle.tiles.specs.Beside.{whole}
use Rattle.tiles.specs.Cleared.{Clears}
use Rattle.tiles.specs.Sized.{size_by, begins_large_in, extent_meets, large_tiles_meeting_in}
use Rattle.tiles.proofs.SizeChanges.{promotions_none, promotions_same}
use Rattle.tiles.proofs.Eligible.{whole_has, whole_local, page_in}
use Rattle.tiles.proofs.Extents.{starts_below}
use Rattle.tiles.proofs.Largest.{size_small, whole_within, within_size}
use Rattle.tiles.proofs.Meeting.{common_page, none_common}
use Rattle.tiles.proofs.SizedTiles.{at_most_size, by_small, large_test, promoted_test, tile_size, whole_up_to, within_grows}

module _ (first len : ℕ) (old new : ℕ → Option Mapping) (clears : Clears first len old new) where
  new_inside : (p : ℕ) → in_range first len p ≡ true → new p ≡ None
  new_inside p is = clears p ∙ ap (λ (b : Bool). if b then None else old p) is

  new_outside : (p : ℕ) → in_range first len p ≡ false → new p ≡ old p
  new_outside p isnt = clears p ∙ ap (λ (b : Bool). if b then None else old p) isnt

  -- a page that is resident still is outside
  outside_if : (p : ℕ) (m : Mapping) → new p ≡ Some m → in_range first len p ≡ false
  outside_if p m at = elim (cases_Bool (in_range first len p)) [
    | inl is ↦ absurd (none-some m (sym (new_inside p is) ∙ at))
    | inr isnt ↦
        isnt
  ]

  -- an extent that is eligible after was so before
  whole_before : (k q : ℕ) → k ≤ 3 → whole new k q ≡ true → whole old k q ≡ true
  whole_before k q low passes =
      let h = whole_has new k q passes in
      whole_local old new k q low (λ p joined. sym (new_outside p (outside_if p _ (page_in new k q p h low joined)))) ∙ passes

  module _ (z : SizeSet) where
    -- so no tile is larger after
    no_larger : (q : ℕ) → size_by z new q ≤ size_by z old q
    no_larger q = elim (cases_lt 0 (size_at new q)) [
      | inl above ↦
          let low = size_small new q in
          within_grows z (size_at new q) (size_at old q) (within_size old q (size_at new q) low
          (whole_before (size_at new q) q low (whole_within new q (size_at new q) above (omega arith))))
      | inr none ↦ within_grows z (size_at new q) (size_at old q) (omega arith)
    ]

    -- a tile that has no page of the range stays
    tile_stays : (q : ℕ) → 0 < size_by z old q → ((p : ℕ) → p / 8 ^ size_by z old q ≡ q / 8 ^ size_by z old q
        → in_range first len p ≡ false) → size_by z old q ≤ size_by z new q
    tile_stays q above outside =
        let k = size_by z old q in
        let low = by_small z old q in
        at_most_size z new q k low (has_within z (size_at old q)) (sym
        (whole_local old new k q low (λ p joined. sym (new_outside p (outside p joined)))) ∙ whole_up_to z old q k above (omega arith))

    -- and one that has a page of it goes
    tile_goes : (q p : ℕ) → 0 < size_by z old q → p / 8 ^ size_by z old q ≡ q / 8 ^ size_by z old q → in_range first len p ≡ true
        → size_by z new q < size_by z old q
    tile_goes q p above joined inside = elim (cases_lt (size_by z new q) (size_by z old q)) [
      | inl less ↦ less
      | inr from ↦
          let k = size_by z old q in
          let h = whole_has new k q (whole_up_to z new q k above from) in
          absurd (none-some _ (sym (new_inside p inside) ∙ page_in new k q p h (by_small z old q) joined))
    ]

    demoted_large : (q : ℕ) → is_promoted_in z new old q ≡ (begins_large_in z old q && extent_meets first len (tile_size_in z old q) q)
    demoted_large q =
        let k = size_by z old q in
        let starts = starts_below k q (by_small z old q) in
        let start : eqb (q % 8 ^ k) 0 ≡ true → extent_start k q ≡ q = λ whole. let at = eqb-true _ _ whole in
        omega (arith, starts.first, at) in
        promoted_test z new old q
        ∙ both (size_by z new q) k (eqb (q % 8 ^ k) 0) (extent_meets first len k q)
        (λ above whole meets. let common = common_page first len k q (start whole) meets in
        tile_goes q common.page_in_both above common.joined common.inside)
        (λ above whole apart. tile_stays q above (none_common first len k q (start whole) apart))
        ∙ ap (λ b. b && extent_meets first len k q) (sym (large_test z old q))
        ∙ ap (λ n. begins_large_in z old q && extent_meets first len n q) (sym (tile_size z old q))
      where
        lt_yes : (a b : ℕ) → a < b → nat_lt a b ≡ true
        lt_yes a b h = grind (arith, nat_tests)

        lt_no : (a b : ℕ) → b ≤ a → nat_lt a b ≡ false
        lt_no a b h = grind (arith, nat_tests)

        and_none : (b : Bool) → (b && false) ≡ false
        and_none true = refl
        and_none false = refl

        -- the tile is smaller where it was large and meets the range
        both : (n k : ℕ) (a m : Bool) → (0 < k → a ≡ true → m ≡ true → n < k) → (0 < k → a ≡ true → m ≡ false → k ≤ n)
            → (nat_lt n k && a) ≡ ((nat_lt 0 k && a) && m)
        both n k false m goes stays = and_none (nat_lt n k) ∙ sym (ap (λ b. b && m) (and_none (nat_lt 0 k)))
        both n k true m goes stays = elim (cases_lt 0 k) [
          | inl above ↦ elim (cases_Bool m) [
            | inl meets ↦ ap (λ b. b && true) (lt_yes n k (goes above refl meets)) ∙ sym meets
                ∙ sym (ap (λ b. (b && true) && m) (lt_yes 0 k above))
            | inr apart ↦ ap (λ b. b && true) (lt_no n k (stays above refl apart)) ∙ sym apart
                ∙ sym (ap (λ b. (b && true) && m) (lt_yes 0 k above))
          ]
          | inr none ↦ ap (λ b. b && true) (lt_no n k (omega arith)) ∙ sym (ap (λ b. (b && true) && m) (lt_no 0 k none))
        ]

    -- a range's pages are cleared: no tile comes, and the large tiles that meet it are broken
    pub promotions_cleared : promotions_in z old new ≡ 0
    promotions_cleared = promotions_none z old new no_larger

    pub demotions_cleared : demotions_in z old new ≡ large_tiles_meeting_in z first len old
    demotions_cleared = ap count_pages (let tests : is_promoted_in z new old ≡
        (λ q. begins_large_in z old q && extent_meets first len (tile_size_in z old q) q) = λ i q. demoted_large q i in tests)

-- Where nothing is said of a page that wasn't said before, the tiles are the same, and none came or went.
module _ (z : SizeSet) (old new : ℕ → Option Mapping) (same : (p : ℕ) → new p ≡ old p) where
  pages_same : new ≡ old
  pages_same = λ i p. same p i

  pub tile_in_alike : (page : ℕ) → tile_in z new page ≡ tile_in z old page
  tile_in_alike page = ap (λ (pages : ℕ → Option Mapping). tile_in z pages page) pages_same

  pub is_tile_alike : (t : Tile) → is_tile_in z new t ≡ is_tile_in z old t
  is_tile_alike t = ap (λ (pages : ℕ → Option Mapping). is_tile_in z pages t) pages_same

  pub no_promotions : promotions_in z old new ≡ 0
  no_promotions = promotions_same z old new same

  pub no_demotions : demotions_in z old new ≡ 0
  no_demotions = promotions_same z new old (λ p. sym (same p))
