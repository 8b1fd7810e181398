-- How many entries of each size there are after a change of an extent.
use Rattle.std.proofs.Common.{◌≡◌, ◌≢◌, ℕ, zero, suc, ◌+◌, ◌-◌, ◌*◌, ◌/◌, ◌%◌, ◌^◌, ◌<◌, ◌≤◌, Bool, true, false, ◌&&◌, ◌==◌, eqb, List, slice_index, Option, Some, None, refl, sym, ap, ◌∙◌, arith}
use Rattle.std.specs.List.{range_with_len, count_by}
use Rattle.std.proofs.Math.Nat.{add-mod_right}
use Rattle.std.proofs.lemmas.List.FromFn.{length-range_with_len}
use Rattle.std.proofs.lemmas.List.Sums.{count_by-le-length}
use Rattle.std.proofs.lemmas.Bool.{eq-eqb, ne_eqb}
use Rattle.std.proofs.lemmas.Bool.Decides.{nat_tests}
use Rattle.pager_model.specs.declared.extent.Extent.{Extent}
use Rattle.pager_model.specs.declared.tile.Mapping.{Mapping}
use Rattle.pager_model.specs.Bounds.{space_pages}
use Rattle.pager_model.specs.Extents.{IsExtent, extent_start}
use Rattle.pager_model.specs.Tiles.{count_pages}
use Rattle.pager_model.proofs.CountLemmas.{weight, block_change, count-suc, count-apart, count-agree, count-none}
use Rattle.pager_model.proofs.ExtentLemmas.{eight_pos, eight_split, aligned_part, in_extent, of_extent}
use Rattle.extent_tree.specs.Rows.{Arena}
use Rattle.tiles.specs.declared.entry.TableEntry.{TableEntry}
use Rattle.extent_tree.proofs.Counting.{count_some}
use Rattle.tiles.specs.TableEntries.{entry_at, entry_count, is_first_of, AreEntries, Maps}
use Rattle.tiles.specs.KeptEntries.{AreCounts}
use Rattle.tiles.proofs.Mappings.{maps_outside}
use Rattle.tiles.proofs.PageCounts.{ends_within}

-- the page is the first of its extent of a size
begins : ℕ → ℕ → Bool
begins size page = page % 8 ^ size == 0

begins-is : (size page : ℕ) → begins size page ≡ eqb (page % 8 ^ size) 0
unfolding begins
begins-is size page = refl

-- no extent begins within another of its size
none_within : (size first page : ℕ) → size ≤ 3 → first % 8 ^ size ≡ 0 → first < page → page < first + 8 ^ size → page % 8 ^ size ≢ 0
none_within zero first page low aligned above below e = omega arith
none_within (suc zero) first page low aligned above below e = omega arith
none_within (suc (suc zero)) first page low aligned above below e = omega arith
none_within (suc (suc (suc zero))) first page low aligned above below e = omega arith
none_within (suc (suc (suc (suc size)))) first page low aligned above below e = absurd (omega arith)

one_begins : (size first width : ℕ) → size ≤ 3 → 8 ^ size ≡ suc width → first % 8 ^ size ≡ 0
    → count_by (begins size) (range_with_len first (suc width)) ≡ 1
one_begins size first width low e aligned =
    omega (
      arith,
      count-suc (begins size) first width,
      ap weight (begins-is size first ∙ eq-eqb (first % 8 ^ size) 0 aligned),
      count-none (begins size) (first + 1) width (λ n above below. begins-is size n
          ∙ ne_eqb (n % 8 ^ size) 0 (none_within size first n low aligned (omega arith) (omega (arith, e)))),
    )

in_block : (size first : ℕ) → size ≤ 3 → first % 8 ^ size ≡ 0 → count_by (begins size) (range_with_len first (8 ^ size)) ≡ 1
in_block size first low aligned =
    let e : 8 ^ size ≡ suc (8 ^ size - 1) = omega (arith, eight_pos size) in
    ap (λ n. count_by (begins size) (range_with_len first n)) e ∙ one_begins size first (8 ^ size - 1) low e aligned

-- of so many extents one after another each begins
blocks : (size many first : ℕ) → size ≤ 3 → first % 8 ^ size ≡ 0 → count_by (begins size) (range_with_len first (many * 8 ^ size)) ≡ many
blocks size zero first low aligned = ap (λ n. count_by (begins size) (range_with_len first n)) {x = 0 * 8 ^ size} {y = 0} (omega arith)
blocks size (suc many) first low aligned =
    let next : (first + 8 ^ size) % 8 ^ size ≡ 0 = add-mod_right first (8 ^ size) ∙ aligned in
    ap (λ n. count_by (begins size) (range_with_len first n)) {x = suc many * 8 ^ size} {y = 8 ^ size + many * 8 ^ size} (omega arith)
    ∙ omega (
      arith,
      count-apart (begins size) first (8 ^ size) (many * 8 ^ size) (first + 8 ^ size) refl,
      in_block size first low aligned,
      blocks size many (first + 8 ^ size) low next,
    )

-- ---- entries that begin in an extent

-- the page is the first of an entry of a size
abbrev begins_entry : Arena Mapping → ℕ → ℕ → Bool
begins_entry m size page = is_first_of size page (entry_at m page)

-- how many entries of a size begin in an extent
pub begun_in : Arena Mapping → Extent → ℕ → ℕ
begun_in m extent size = count_by (begins_entry m size) (range_with_len extent.first (8 ^ extent.size))

pub begun_none : (m : Arena Mapping) (extent : Extent) (size : ℕ) → IsExtent extent.size extent.first
    → ((page : ℕ) → page / 8 ^ extent.size ≡ extent.first / 8 ^ extent.size → entry_at m page ≡ None) → begun_in m extent size ≡ 0
unfolding begun_in
begun_none m extent size is none =
    count-none (begins_entry m size) extent.first (8 ^ extent.size) (λ page low high.
    ap (is_first_of size page) (none page (in_extent extent.size extent.first page is.0 is.1 low high)))

-- The pages of an extent have entries of one size, which is at most the extent's.
pub record HasParts (m : Arena Mapping) (extent : Extent) (part : ℕ) : Type 0 where
  pub low : part ≤ extent.size
  pub entry : ℕ → TableEntry
  pub at : (page : ℕ) → page / 8 ^ extent.size ≡ extent.first / 8 ^ extent.size → entry_at m page ≡ Some (entry page)
  pub size : (page : ℕ) → (entry page).extent.size ≡ part
  pub first : (page : ℕ) → page / 8 ^ extent.size ≡ extent.first / 8 ^ extent.size → (entry page).extent.first ≡ extent_start part page

starts : (size page : ℕ) → size ≤ 3 → eqb (extent_start size page) page ≡ eqb (page % 8 ^ size) 0
starts zero page low = grind (arith, nat_tests)
starts (suc zero) page low = grind (arith, nat_tests)
starts (suc (suc zero)) page low = grind (arith, nat_tests)
starts (suc (suc (suc zero))) page low = grind (arith, nat_tests)
starts (suc (suc (suc (suc size)))) page low = absurd (omega arith)

and_true : (b c : Bool) → c ≡ true → (b && c) ≡ b
and_true true c e = e
and_true false c e = refl

and_false : (b c : Bool) → c ≡ false → (b && c) ≡ false
and_false true c e = e
and_false false c e = refl

pub begun_parts : (m : Arena Mapping) (extent : Extent) (part : ℕ) → IsExtent extent.size extent.first → HasParts m extent part
    → begun_in m extent part ≡ 8 ^ (extent.size - part)
unfolding begun_in
begun_parts m extent part is parts =
    count-agree (begins_entry m part) (begins part) extent.first (8 ^ extent.size) same
    ∙ (ap (λ n. count_by (begins part) (range_with_len extent.first n)) (eight_split part extent.size parts.low)
    ∙ blocks part (8 ^ (extent.size - part)) extent.first (omega (arith, is.0, parts.low))
    (aligned_too extent.size part extent.first is.0 parts.low is.1))
  where
    aligned_too : (size part first : ℕ) → size ≤ 3 → part ≤ size → first % 8 ^ size ≡ 0 → first % 8 ^ part ≡ 0
    aligned_too size part first low le aligned = ap (λ n. n % 8 ^ part) {x = first} {y = first + 0 * 8 ^ part} (omega arith)
        ∙ aligned_part part size first 0 le aligned

    same : (page : ℕ) → extent.first ≤ page → page < extent.first + 8 ^ extent.size → begins_entry m part page ≡ begins part page
    same page low high =
        let at = in_extent extent.size extent.first page is.0 is.1 low high in
        ap (is_first_of part page) (parts.at page at)
        ∙ (and_true (eqb (parts.entry page).extent.first page) (eqb (parts.entry page).extent.size part) (eq-eqb _ _ (parts.size page))
        ∙ (ap (λ n. eqb n page) (parts.first page at) ∙ (starts part page (omega (arith, is.0, parts.low)) ∙ sym (begins-is part page))))

pub begun_other : (m : Arena Mapping) (extent : Extent) (part size : ℕ) → IsExtent extent.size extent.first → HasParts m extent part
    → size ≢ part → begun_in m extent size ≡ 0
unfolding begun_in
begun_other m extent part size is parts other =
    count-none (begins_entry m size) extent.first (8 ^ extent.size) (λ page low high.
    let at = in_extent extent.size extent.first page is.0 is.1 low high in
    ap (is_first_of size page) (parts.at page at)
    ∙ and_false (eqb (parts.entry page).extent.first page) (eqb (parts.entry page).extent.size size)
    (ne_eqb _ _ (λ e. other (sym e ∙ parts.size page))))

-- ---- a change of an extent

-- how many of so many entries from page 0 on
counted : Arena Mapping → ℕ → ℕ → ℕ
counted m size pages = count_by (begins_entry m size) (range_with_len 0 pages)

entry_count-is : (m : Arena Mapping) (size pages : ℕ) → pages ≡ space_pages → entry_count m size ≡ counted m size pages
unfolding counted count_pages
entry_count-is m size pages e = ap (λ n. count_by (begins_entry m size) (range_with_len 0 n)) (sym e)

counted_change : (old new : Arena Mapping) (extent : Extent) (given : ℕ → Option TableEntry) (size pages : ℕ) → IsExtent extent.size extent.first
    → extent.first + 8 ^ extent.size ≤ pages → Maps extent given old new
    → counted new size pages + begun_in old extent size ≡ counted old size pages + begun_in new extent size
unfolding begun_in counted
counted_change old new extent given size pages is within maps =
    block_change (begins_entry old size) (begins_entry new size) pages extent.first (8 ^ extent.size) within
    (λ page apart. ap (is_first_of size page) (maps_outside old new extent given page maps
    (λ at. let within = of_extent extent.size extent.first page is.0 is.1 at in apart within.0 within.1)))

-- the count of a size changes as that of the extent does
pub count_change : (old new : Arena Mapping) (extent : Extent) (given : ℕ → Option TableEntry) (size : ℕ) → IsExtent extent.size extent.first
    → extent.first < space_pages → Maps extent given old new
    → entry_count new size + begun_in old extent size ≡ entry_count old size + begun_in new extent size
count_change old new extent given size is inside maps = over space_pages refl
  where
    over : (pages : ℕ) → pages ≡ space_pages → entry_count new size + begun_in old extent size ≡ entry_count old size + begun_in new extent size
    over pages e =
        omega (
          arith,
          entry_count-is new size pages e,
          entry_count-is old size pages e,
          counted_change old new extent given size pages is (ends_within extent pages is inside e) maps,
        )

counted_within : (m : Arena Mapping) (extent : Extent) (size pages : ℕ) → extent.first + 8 ^ extent.size ≤ pages
    → begun_in m extent size ≤ counted m size pages
unfolding begun_in counted
counted_within m extent size pages within =
    let rest = pages - (extent.first + 8 ^ extent.size) in
    let whole = ap (λ n. count_by (begins_entry m size) (range_with_len 0 n)) {x = pages} {y = extent.first + (8 ^ extent.size + rest)}
    (omega (arith, within)) in
    omega (
      arith,
      whole,
      count-apart (begins_entry m size) 0 extent.first (8 ^ extent.size + rest) extent.first (omega arith),
      count-apart (begins_entry m size) extent.first (8 ^ extent.size) rest (extent.first + 8 ^ extent.size) refl,
    )

-- an extent has no more entries of a size than there are
pub count_within : (m : Arena Mapping) (extent : Extent) (size : ℕ) → IsExtent extent.size extent.first → extent.first < space_pages
    → begun_in m extent size ≤ entry_count m size
count_within m extent size is inside = over space_pages refl
  where
    over : (pages : ℕ) → pages ≡ space_pages → begun_in m extent size ≤ entry_count m size
    over pages e = omega (arith, entry_count-is m size pages e, counted_within m extent size pages (ends_within extent pages is inside e))

counted_most : (m : Arena Mapping) (size pages : ℕ) → counted m size pages ≤ pages
unfolding counted
counted_most m size pages = omega (arith, count_by-le-length (begins_entry m size) (range_with_len 0 pages), length-range_with_len 0 pages)

-- and there are no more entries than pages
pub count_most : (m : Arena Mapping) (size : ℕ) → entry_count m size ≤ space_pages
count_most m size = over space_pages refl
  where
    over : (pages : ℕ) → pages ≡ space_pages → entry_count m size ≤ space_pages
    over pages e = omega (arith, e, entry_count-is m size pages e, counted_most m size pages)

counted_none : (m : Arena Mapping) (size pages : ℕ) → ((page : ℕ) → entry_at m page ≡ None) → counted m size pages ≡ 0
unfolding counted
counted_none m size pages none = count-none (begins_entry m size) 0 pages (λ page _ _. ap (is_first_of size page) (none page))

pub count_none : (m : Arena Mapping) (size : ℕ) → ((page : ℕ) → entry_at m page ≡ None) → entry_count m size ≡ 0
count_none m size none = over space_pages refl
  where
    over : (pages : ℕ) → pages ≡ space_pages → entry_count m size ≡ 0
    over pages e = entry_count-is m size pages e ∙ counted_none m size pages none

-- a page of the space that passes a test is counted
is_counted : (test : ℕ → Bool) (page : ℕ) → page < space_pages → test page ≡ true → 1 ≤ count_pages test
unfolding count_pages
is_counted test page known is = count_some test 0 space_pages page (omega arith) known is

-- where no entry of any size is counted there is none
pub none_counted : (m : Arena Mapping) (counts : List ℕ) → AreEntries m → AreCounts counts m
    → ((size : ℕ) → size ≤ 3 → slice_index counts size ≡ 0) → (page : ℕ) → entry_at m page ≡ None
none_counted m counts entries are zeros page = elim (entry_at m page) as (λ o. entry_at m page ≡ o → o ≡ None) [
  | None ↦ λ at. refl
  | Some entry ↦ λ at.
      let size = entry.extent.size in
      let first = entry.extent.first in
      let low = entries.low page entry at in
      let here : entry_at m first ≡ Some entry = entries.one page first entry at (eq-eqb (first / 8 ^ size) (first / 8 ^ size) refl) in
      let found : is_first_of size first (entry_at m first) ≡ true = ap (is_first_of size first) here
      ∙ ap (λ b. b && (size == size)) (eq-eqb first first refl) ∙ eq-eqb size size refl in
      absurd (omega (
        arith,
        are.each size low,
        zeros size low,
        is_counted (begins_entry m size) first
            (entries.in_space first entry here) found,
      ))
] refl

-- and where there is none, none is counted
pub none_is_counted : (m : Arena Mapping) (size : ℕ) → ((page : ℕ) → entry_at m page ≡ None) → entry_count m size ≡ 0
unfolding count_pages
none_is_counted m size none = count-none (begins_entry m size) 0 space_pages (λ page low high. ap (is_first_of size page) (none page))
