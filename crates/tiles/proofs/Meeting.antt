-- Tiles that have a page of a range: those that begin in it, and the one that crosses its first page.
use Rattle.std.proofs.Common.{◌≡◌, ℕ, ◌+◌, ◌-◌, ◌*◌, ◌/◌, ◌%◌, ◌^◌, ◌<◌, ◌≤◌, Bool, true, false, eqb, ltb, ◌&&◌, not, nat_lt, Option, refl, sym, ap, inl, inr, ◌∙◌, arith, subst}
use Rattle.std.specs.Cmp.{both_ways}
use Rattle.std.proofs.lemmas.Bool.{cases_Bool, cases_eq, cases_lt, and_parts, and_from, eqb-true, eq-eqb, ne_eqb, ltb-true, lt-ltb, true≢false}
use Rattle.std.proofs.lemmas.Bool.Decides.{nat_tests}
use Rattle.pager_model.specs.Bounds.{space_pages}
use Rattle.pager_model.specs.declared.tile.Mapping.{Mapping}
use Rattle.pager_model.specs.Extents.{extent_start}
use Rattle.pager_model.specs.Regions.{in_range}
use Rattle.pager_model.specs.SizeSets.{SizeSet}
use Rattle.pager_model.specs.Tiles.{tile_size_in, count_pages}
use Rattle.pager_model.proofs.CountLemmas.{weight}
use Rattle.pager_model.proofs.ExtentLemmas.{eight_pos, extent_of_frame, range_of_extent, first_of_extent}
use Rattle.pager_model.proofs.Ranges.{in_bounds, bounds_in}
use Rattle.tiles.specs.Resident.{NoneResident}
use Rattle.tiles.specs.Sized.{size_by, begins_large_in, begins_before_in, large_tiles_begun_in, extent_meets, large_tiles_meeting_in}
use Rattle.tiles.proofs.Counting.{count_pages-is, count-sum, count_pages_at, count_pages_none}
use Rattle.tiles.proofs.Extents.{starts_below}
use Rattle.tiles.proofs.SizedTiles.{by_absent, by_alike, by_small, large_test, tile_size}

-- ---- an extent and a range

pub record Meets (first len size page : ℕ) : Type 0 where
  pub some : 0 < len
  pub before_end : page < first + len
  pub past_first : first < page + 8 ^ size

pub meets_if : (first len size page : ℕ) → extent_meets first len size page ≡ true → Meets first len size page
meets_if first len size page h =
    let parts = and_parts (ltb 0 len) _ h in
    let ends = and_parts (ltb page (first + len)) _ parts.1 in
    record { some = ltb-true _ _ parts.0; before_end = ltb-true _ _ ends.0; past_first = ltb-true _ _ ends.1 }

pub if_meets : (first len size page : ℕ) → Meets first len size page → extent_meets first len size page ≡ true
if_meets first len size page m =
    and_from _ _ (lt-ltb 0 len m.some) (and_from _ _ (lt-ltb page (first + len) m.before_end) (lt-ltb first (page + 8 ^ size) m.past_first))

-- a page that both have
pub record HasCommon (first len size page : ℕ) : Type 0 where
  pub page_in_both : ℕ
  pub joined : page_in_both / 8 ^ size ≡ page / 8 ^ size
  pub inside : in_range first len page_in_both ≡ true

pub common_page : (first len size page : ℕ) → extent_start size page ≡ page → extent_meets first len size page ≡ true
    → HasCommon first len size page
common_page first len size page starts meets =
    let m = meets_if first len size page meets in
    elim (cases_lt page first) [
      | inl before ↦ record {
        page_in_both = first;
        joined = extent_of_frame (page / 8 ^ size) (8 ^ size) first (omega (arith, starts)) (omega (arith, starts, m.past_first));
        inside = bounds_in first len first (omega arith) (omega (arith, m.some));
      }
      | inr from ↦ record { page_in_both = page; joined = refl; inside = bounds_in first len page from m.before_end }
    ]

pub none_common : (first len size page : ℕ) → extent_start size page ≡ page → extent_meets first len size page ≡ false → (p : ℕ)
    → p / 8 ^ size ≡ page / 8 ^ size → in_range first len p ≡ false
none_common first len size page starts apart p joined = elim (cases_Bool (in_range first len p)) [
  | inl inside ↦
      let range = in_bounds first len p inside in
      let extent = range_of_extent (page / 8 ^ size) (8 ^ size) p (eight_pos size) joined in
      let meets = if_meets first len size page
      (record {
        some = omega (arith, range);
        before_end = omega (arith, starts, range, extent);
        past_first = omega (arith, starts, range, extent);
      }) in
      absurd (true≢false (sym meets ∙ apart))
  | inr outside ↦ outside
]

-- ---- the tiles that meet a range

-- A page begins a large tile.
record BeginsLarge (z : SizeSet) (pages : ℕ → Option Mapping) (page : ℕ) : Type 0 where
  pub large : 0 < size_by z pages page
  pub starts : extent_start (size_by z pages page) page ≡ page

large_is : (z : SizeSet) (pages : ℕ → Option Mapping) (page : ℕ) → begins_large_in z pages page ≡ true → BeginsLarge z pages page
large_is z pages page h =
    let parts = and_parts (ltb 0 (size_by z pages page)) _ (sym (large_test z pages page) ∙ h) in
    let starts = starts_below (size_by z pages page) page (by_small z pages page) in
    let whole = eqb-true _ _ parts.1 in
    record { large = ltb-true _ _ parts.0; starts = omega (arith, starts.first, whole) }

is_large : (z : SizeSet) (pages : ℕ → Option Mapping) (page : ℕ) → BeginsLarge z pages page → begins_large_in z pages page ≡ true
is_large z pages page begins =
    let starts = starts_below (size_by z pages page) page (by_small z pages page) in
    large_test z pages page ∙ and_from _ _ (lt-ltb 0 (size_by z pages page) begins.large)
    (eq-eqb _ _ (omega (arith, starts.first, starts.within, begins.starts)))

module _ (z : SizeSet) (pages : ℕ → Option Mapping) (first len : ℕ) (some : 0 < len) where
  -- the first page of the tile of the range's first page
  abbrev start : ℕ
  start = extent_start (size_by z pages first) first

  start_low : start ≤ first
  start_low = let starts = starts_below (size_by z pages first) first (by_small z pages first) in omega (arith, starts.first)

  -- a tile that begins before the range and meets it is the one of the range's first page
  module _ (q : ℕ) (before : q < first) where
    crosses : begins_large_in z pages q ≡ true → extent_meets first len (tile_size_in z pages q) q ≡ true
        → (q ≡ start) × (begins_before_in z pages first ≡ true)
    crosses begins meets =
        let k = size_by z pages q in
        let is = large_is z pages q begins in
        let m = meets_if first len k q (ap (λ n. extent_meets first len n q) (sym (tile_size z pages q)) ∙ meets) in
        let joined : first / 8 ^ k ≡ q / 8 ^ k = extent_of_frame (q / 8 ^ k) (8 ^ k) first (omega (arith, is.starts))
        (omega (arith, is.starts, m.past_first)) in
        let at : start ≡ q = ap (λ j. extent_start j first) (by_alike z pages q first joined) ∙ ap (λ n. n * 8 ^ k) joined ∙ is.starts in
        let starts = starts_below (size_by z pages first) first (by_small z pages first) in
        (sym at, ap not (ne_eqb (first % 8 ^ size_by z pages first) 0 (λ none. absurd (omega (arith, starts.first, at)))))

    crossed : q ≡ start → begins_before_in z pages first ≡ true → (begins_large_in z pages q ≡ true)
        × (extent_meets first len (tile_size_in z pages q) q ≡ true)
    crossed at behind =
        let k = size_by z pages first in
        let starts = starts_below k first (by_small z pages first) in
        let joined : q / 8 ^ k ≡ first / 8 ^ k = ap (λ n. n / 8 ^ k) at ∙ first_of_extent k first in
        let same : size_by z pages q ≡ k = by_alike z pages first q joined in
        let large : 0 < k = elim (cases_lt 0 k) [
          | inl above ↦ above
          | inr none ↦ absurd (omega (arith, at, starts.first, ap (λ j. 8 ^ j) {x = k} {y = 0} (omega arith)))
        ] in (
          is_large z pages q (record {
            large = omega (arith, same);
            starts = ap (λ j. extent_start j q) same ∙ ap (λ n. n * 8 ^ k) joined
                ∙ sym at;
          }),
          ap (λ n. extent_meets first len n q) (tile_size z pages q)
              ∙ if_meets first len (size_by z pages q) q
              (record {
                some = some;
                before_end = omega arith;
                past_first = omega
                    (arith, ap (λ j. 8 ^ j) same, at, starts.first, starts.within, starts.short);
              }),
        )

    counted_before : (begins_large_in z pages q && extent_meets first len (tile_size_in z pages q) q) ≡
        (eqb q start && begins_before_in z pages first)
    counted_before =
        both_ways _ _
        (λ is. let parts = and_parts (begins_large_in z pages q) _ is in let crossing = crosses parts.0 parts.1 in
        and_from _ _ (eq-eqb q start crossing.0) crossing.1)
        (λ is. let parts = and_parts (eqb q start) _ is in let crossing = crossed (eqb-true q start parts.0) parts.1 in
        and_from _ _ crossing.0 crossing.1)

  -- in the range each tile that begins counts, and past it none
  module _ (q : ℕ) (from : first ≤ q) where
    none_crosses : (eqb q start && begins_before_in z pages first) ≡ false
    none_crosses = elim (cases_eq q start) [
      | inl at ↦
          let starts = starts_below (size_by z pages first) first (by_small z pages first) in
          ap (λ b. eqb q start && not b) (eq-eqb (first % 8 ^ size_by z pages first) 0 (omega (arith, starts.first, starts.within, at)))
          ∙ and_none (eqb q start)
      | inr apart ↦ ap (λ b. b && begins_before_in z pages first) (ne_eqb q start apart)
    ]
      where
        and_none : (b : Bool) → (b && false) ≡ false
        and_none true = refl
        and_none false = refl

    meets_inside : extent_meets first len (tile_size_in z pages q) q ≡ in_range first len q
    meets_inside =
        ap (λ n. extent_meets first len n q) (tile_size z pages q)
        ∙ both_ways _ _
        (λ is. bounds_in first len q from (meets_if first len (size_by z pages q) q is).before_end)
        (λ is. if_meets first len (size_by z pages q) q
        (record { some = some; before_end = (in_bounds first len q is).1; past_first = omega (arith, eight_pos (size_by z pages q)) }))

  each : (q : ℕ)
      → weight (begins_large_in z pages q && extent_meets first len (tile_size_in z pages q) q) ≡ weight
      (in_range first len q && begins_large_in z pages q) + weight (eqb q start && begins_before_in z pages first)
  each q = elim (cases_lt q first) [
    | inl before ↦ grind (arith, nat_tests, counted_before q before)
    | inr from ↦ ap (λ b. weight (begins_large_in z pages q && b)) (meets_inside q from)
        ∙ swapped (begins_large_in z pages q) (in_range first len q) _ (none_crosses q from)
  ]
    where
      swapped : (a b c : Bool) → c ≡ false → weight (a && b) ≡ weight (b && a) + weight c
      swapped true true c none = omega (arith, ap weight none)
      swapped true false c none = omega (arith, ap weight none)
      swapped false true c none = omega (arith, ap weight none)
      swapped false false c none = omega (arith, ap weight none)

  -- the tiles that meet the range are those that begin in it, and the one that crosses its first page
  tiles_some : first + len ≤ space_pages
      → large_tiles_meeting_in z first len pages ≡ large_tiles_begun_in z first len pages + weight (begins_before_in z pages first)
  tiles_some known = at space_pages refl
    where
      at : (many : ℕ) → many ≡ space_pages → large_tiles_meeting_in z first len pages ≡ large_tiles_begun_in z first len pages + weight
          (begins_before_in z pages first)
      at many e =
          omega (
            arith,
            count_pages-is (λ q. begins_large_in z pages q && extent_meets first len (tile_size_in z pages q) q) many e,
            count_pages-is (λ q. in_range first len q && begins_large_in z pages q) many e,
            count_pages-is (λ q. eqb q start && begins_before_in z pages first) many e,
            count_pages_at start (begins_before_in z pages first) (omega (arith, start_low)),
            count-sum (λ q. begins_large_in z pages q && extent_meets first len (tile_size_in z pages q) q)
                (λ q. in_range first len q && begins_large_in z pages q) (λ q. eqb q start && begins_before_in z pages first) 0 many
                (λ q low high. each q),
          )

pub tiles_meeting : (z : SizeSet) (pages : ℕ → Option Mapping) (first len : ℕ) → first + len ≤ space_pages
    → large_tiles_meeting_in z first len pages ≡ large_tiles_begun_in z first len pages + weight
    (nat_lt 0 len && begins_before_in z pages first)
tiles_meeting z pages first len known = elim (cases_lt 0 len) [
  | inl some ↦ tiles_some z pages first len some known ∙ ap (λ b. large_tiles_begun_in z first len pages + weight
      (b && begins_before_in z pages first)) (sym (lt-ltb 0 len some))
  | inr none ↦
      let empty : 0 ≡ len = omega arith in
      subst (λ n. large_tiles_meeting_in z first n pages ≡ large_tiles_begun_in z first n pages + weight
      (nat_lt 0 n && begins_before_in z pages first)) empty (meeting_none ∙ sym (ap (λ n. n + 0) begun_none))
]
  where
    meeting_none : large_tiles_meeting_in z first 0 pages ≡ 0
    meeting_none = ap count_pages (let tests : (λ q. begins_large_in z pages q && false) ≡ (λ q. false) = λ i q. and_none
        (begins_large_in z pages q) i in tests) ∙ count_pages_none
      where
        and_none : (b : Bool) → (b && false) ≡ false
        and_none true = refl
        and_none false = refl

    begun_none : large_tiles_begun_in z first 0 pages ≡ 0
    begun_none = ap count_pages (let tests : (λ q. in_range first 0 q && begins_large_in z pages q) ≡ (λ q. false) = λ i q. ap
        (λ b. b && begins_large_in z pages q) (outside first q) i in tests) ∙ count_pages_none
      where
        outside : (first q : ℕ) → in_range first 0 q ≡ false
        outside first q = grind (arith, nat_tests)

-- no tile meets a range of which no page is resident
pub meeting_bare : (z : SizeSet) (pages : ℕ → Option Mapping) (first len : ℕ) → NoneResident pages first (first + len)
    → large_tiles_meeting_in z first len pages ≡ 0
meeting_bare z pages first len bare =
    ap count_pages (let tests : (λ q. begins_large_in z pages q && extent_meets first len (tile_size_in z pages q) q) ≡
    (λ q. false) = λ i q. apart q i in tests) ∙ count_pages_none
  where
    apart : (q : ℕ) → (begins_large_in z pages q && extent_meets first len (tile_size_in z pages q) q) ≡ false
    apart q = elim (cases_Bool (begins_large_in z pages q && extent_meets first len (tile_size_in z pages q) q)) [
      | inl both ↦
          let parts = and_parts (begins_large_in z pages q) _ both in
          let is = large_is z pages q parts.0 in
          let meets : extent_meets first len (size_by z pages q) q ≡ true =
          ap (λ k. extent_meets first len k q) (sym (tile_size z pages q)) ∙ parts.1 in
          let common = common_page first len (size_by z pages q) q is.starts meets in
          let range = in_bounds first len common.page_in_both common.inside in
          let none = by_absent z pages common.page_in_both (bare common.page_in_both range.0 range.1) in
          absurd (omega (arith, is.large, none, by_alike z pages q common.page_in_both common.joined))
      | inr none ↦ none
    ]

-- the page begins a large tile that meets what lies between two pages
abbrev begins_between : SizeSet → (ℕ → Option Mapping) → (first end page : ℕ) → Bool
begins_between z pages first end page = begins_large_in z pages page && extent_meets first (end - first) (tile_size_in z pages page) page

-- where none of the first pages of a range is resident, the tiles that meet it are those that meet the rest
pub meeting_from : (z : SizeSet) (pages : ℕ → Option Mapping) (first page end : ℕ) → first ≤ page → page ≤ end
    → NoneResident pages first page
    → large_tiles_meeting_in z first (end - first) pages ≡ large_tiles_meeting_in z page (end - page) pages
meeting_from z pages first page end from within bare = ap count_pages
    (let tests : begins_between z pages first end ≡ begins_between z pages page end = λ i q. both_ways _ _ (rest q) (whole q) i in tests)
  where
    rest : (q : ℕ) → begins_between z pages first end q ≡ true → begins_between z pages page end q ≡ true
    rest q both =
        let k = size_by z pages q in
        let parts = and_parts (begins_large_in z pages q) _ both in
        let is = large_is z pages q parts.0 in
        let meets : extent_meets first (end - first) k q ≡ true = ap (λ j. extent_meets first (end - first) j q)
        (sym (tile_size z pages q)) ∙ parts.1 in
        let m = meets_if first (end - first) k q meets in
        let common = common_page first (end - first) k q is.starts meets in
        let p = common.page_in_both in
        let range = in_bounds first (end - first) p common.inside in
        let extent = range_of_extent (q / 8 ^ k) (8 ^ k) p (eight_pos k) common.joined in
        let on : page ≤ p = elim (cases_lt p page) [
          | inl before ↦ absurd (omega (arith, is.large, by_absent z pages p (bare p range.0 before), by_alike z pages q p common.joined))
          | inr on ↦ on
        ] in
        and_from _ _ parts.0 (ap (λ j. extent_meets page (end - page) j q) (tile_size z pages q)
        ∙ if_meets page (end - page) k q
        (record {
          some = omega (arith, range, on);
          before_end = omega (arith, m.before_end);
          past_first = omega (arith, is.starts, extent, on);
        }))

    whole : (q : ℕ) → begins_between z pages page end q ≡ true → begins_between z pages first end q ≡ true
    whole q both =
        let k = size_by z pages q in
        let parts = and_parts (begins_large_in z pages q) _ both in
        let m = meets_if page (end - page) k q (ap (λ j. extent_meets page (end - page) j q) (sym (tile_size z pages q)) ∙ parts.1) in
        and_from _ _ parts.0 (ap (λ j. extent_meets first (end - first) j q) (tile_size z pages q)
        ∙ if_meets first (end - first) k q
        (record { some = omega (arith, m.some); before_end = omega (arith, m.before_end); past_first = omega (arith, m.past_first) }))
