-- How many large tiles begin from a page on: none where no page is resident, and in a tile one at each multiple of its size by some sizes.
use Rattle.std.proofs.Common.{◌≡◌, ℕ, zero, suc, ◌+◌, ◌-◌, ◌/◌, ◌%◌, ◌^◌, ◌<◌, ◌≤◌, Bool, eqb, ◌&&◌, nat_lt, Option, Some, refl, ap, inl, inr, ◌∙◌, arith}
use Rattle.std.specs.Int.{div_ceil}
use Rattle.std.proofs.lemmas.Bool.{cases_lt, lt-ltb}
use Rattle.std.proofs.lemmas.Bool.Decides.{nat_tests}
use Rattle.pager_model.specs.declared.tile.Mapping.{Mapping}
use Rattle.pager_model.specs.declared.tile.Tile.{Tile}
use Rattle.pager_model.specs.Extents.{extent_start}
use Rattle.pager_model.specs.SizeSets.{SizeSet, size_within}
use Rattle.pager_model.specs.Tiles.{size_at, size_in, tile_of}
use Rattle.pager_model.proofs.CountLemmas.{weight}
use Rattle.pager_model.proofs.ExtentLemmas.{extent_of_frame}
use Rattle.tiles.specs.Resident.{NoneResident}
use Rattle.tiles.specs.Sized.{begins_large_in, size_by}
use Rattle.tiles.proofs.Counting.{count, count-apart, count-more, count-none, count-same, count-zero}
use Rattle.tiles.proofs.Extents.{starts_below}
use Rattle.tiles.proofs.Largest.{size_alike, size_small}
use Rattle.tiles.proofs.SizedTiles.{by_absent, large_test, within_small}
use Rattle.tiles.proofs.TileLaws.{tile_largest}

-- ---- how many numbers from one on and before another one are multiples

abbrev pub is_multiple : ℕ → ℕ → Bool
is_multiple size page = eqb (page % 8 ^ size) 0

next_multiple : (size n : ℕ) → size ≤ 3 → div_ceil (n + 1) (8 ^ size) ≡ div_ceil n (8 ^ size) + weight (is_multiple size n)
next_multiple zero n low = grind (arith, nat_tests)
next_multiple (suc zero) n low = grind (arith, nat_tests)
next_multiple (suc (suc zero)) n low = grind (arith, nat_tests)
next_multiple (suc (suc (suc zero))) n low = grind (arith, nat_tests)
next_multiple (suc (suc (suc (suc size)))) n low = absurd (omega arith)

pub count_multiples : (size from many : ℕ) → size ≤ 3 → count (is_multiple size) from many + div_ceil from (8 ^ size) ≡ div_ceil
    (from + many) (8 ^ size)
count_multiples size from zero low = omega (
  arith,
  count-zero (is_multiple size) from,
  ap (λ n. div_ceil n (8 ^ size)) {x = from + 0} {y = from} (omega arith),
)
count_multiples size from (suc many) low =
    omega (
      arith,
      ap (count (is_multiple size) from) {x = suc many} {y = many + 1} (omega arith),
      count-more (is_multiple size) from many (from + many) refl,
      count_multiples size from many low,
      next_multiple size (from + many) low,
      ap (λ n. div_ceil n (8 ^ size)) {x = from + suc many} {y = from + many + 1} (omega arith),
    )

-- no fewer come before a later number
pub multiples_grow : (size from end : ℕ) → size ≤ 3 → from ≤ end → div_ceil from (8 ^ size) ≤ div_ceil end (8 ^ size)
multiples_grow size from end low on =
    omega (
      arith,
      count_multiples size from (end - from) low,
      ap (λ n. div_ceil n (8 ^ size)) {x = from + (end - from)} {y = end}
          (omega arith),
    )

-- ---- large tiles

module _ (z : SizeSet) (pages : ℕ → Option Mapping) where
  abbrev begins : ℕ → Bool
  begins = begins_large_in z pages

  -- none begins where no page is resident
  pub bare_begun : (from end : ℕ) → NoneResident pages from end → from ≤ end → count begins from (end - from) ≡ 0
  bare_begun from end none on =
      count-none begins from (end - from) (λ p low high.
      let small = by_absent z pages p (none p low (omega arith)) in
      large_test z pages p ∙ ap (λ n. nat_lt 0 n && eqb (p % 8 ^ n) 0) small)

  module _ (page end : ℕ) (t : Tile) (is : tile_of pages page ≡ Some t) (on : page ≤ end) (within : end ≤ t.extent.first + 8 ^ t.extent.size) where
    abbrev size : ℕ
    size = size_within z t.extent.size

    -- each page of the tile has its size
    pub size_there : (p : ℕ) → page ≤ p → p < end → size_by z pages p ≡ size
    size_there p low high =
        let k = size_at pages page in
        let own : k ≡ t.extent.size = ap size_in is in
        let first : extent_start k page ≡ t.extent.first = ap (λ n. extent_start n page) own ∙ (tile_largest pages page t is).1 in
        let starts = starts_below k page (size_small pages page) in
        let joined : p / 8 ^ k ≡ page / 8 ^ k = extent_of_frame (page / 8 ^ k) (8 ^ k) p (omega (arith, starts.first))
        (omega (arith, first, within, high, ap (λ n. 8 ^ n) own)) in
        ap (size_within z) (size_alike pages page p joined ∙ own)

    -- and begins one where it is a multiple
    begins_there : (p : ℕ) → page ≤ p → p < page + (end - page) → begins p ≡ (nat_lt 0 size && is_multiple size p)
    begins_there p low high = large_test z pages p ∙ ap (λ n. nat_lt 0 n && eqb (p % 8 ^ n) 0) (size_there p low (omega arith))

    small_begun : size ≡ 0 → count begins page (end - page) ≡ 0
    small_begun none = count-none begins page (end - page) (λ p low high. begins_there p low high
        ∙ ap (λ n. nat_lt 0 n && eqb (p % 8 ^ n) 0) none)

    large_begun : t.extent.size ≤ 3 → 0 < size → count begins page (end - page) + div_ceil page (8 ^ size) ≡ div_ceil end (8 ^ size)
    large_begun low large =
        omega (
          arith,
          count-same begins (is_multiple size) page (end - page) (λ p from to. begins_there p from to
              ∙ ap (λ b. b && is_multiple size p) (lt-ltb 0 size large)),
          count_multiples size page (end - page) (within_small z t.extent.size low),
          ap (λ n. div_ceil n (8 ^ size)) {x = page + (end - page)} {y = end} (omega arith),
        )

    -- so many as are counted by the size
    begun_is : (k many : ℕ) → k ≡ size → (k ≡ 0 → many ≡ 0) → (0 < k → many + div_ceil page (8 ^ k) ≡ div_ceil end (8 ^ k))
        → t.extent.size ≤ 3 → many ≡ count begins page (end - page)
    begun_is k many own none some low = elim (cases_lt 0 k) [
      | inl large ↦
          omega (
            arith,
            some large,
            large_begun low (omega (arith, own, large)),
            ap (λ n. div_ceil page (8 ^ n)) own,
            ap (λ n. div_ceil end (8 ^ n)) own,
          )
      | inr small ↦ omega (arith, none (omega arith), small_begun (omega (arith, own, small)))
    ]

    -- beside those before
    pub begun_on : (first from k many : ℕ) → first ≤ from → from ≤ page → NoneResident pages from page → k ≡ size → (k ≡ 0 → many ≡ 0)
        → (0 < k → many + div_ceil page (8 ^ k) ≡ div_ceil end (8 ^ k)) → t.extent.size ≤ 3
        → count begins first (end - first) ≡ count begins first (from - first) + many
    begun_on first from k many after before bare own none some low =
        omega (
          arith,
          ap (count begins first) {x = end - first} {y = from - first + (page - from + (end - page))} (omega (arith, on, after, before)),
          count-apart begins first (from - first) (page - from + (end - page)) from (omega (arith, after)),
          count-apart begins from (page - from) (end - page) page (omega (arith, before)),
          bare_begun from page bare before,
          begun_is k many own none some low,
        )
