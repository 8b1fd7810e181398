-- The entry that eight parts form, where they continue each other.
use Rattle.std.proofs.Common.{◌≡◌, ℕ, zero, suc, ◌+◌, ◌-◌, ◌*◌, ◌/◌, ◌%◌, ◌^◌, ◌<◌, ◌≤◌, true, List, Some, refl, sym, ap, subst, ◌∙◌, arith}
use Rattle.std.proofs.lemmas.Bool.{eqb-true}
use Rattle.extent_tree.specs.declared.spot.Spot.{Spot}
use Rattle.extent_tree.specs.Rows.{Arena, row}
use Rattle.pager_model.specs.declared.tile.Mapping.{Mapping}
use Rattle.pager_model.specs.Extents.{extent_start}
use Rattle.pager_model.specs.Tiles.{moved_by}
use Rattle.pager_model.proofs.ExtentLemmas.{eight_parts, first_of_extent}
use Rattle.tiles.specs.declared.entry.TableEntry.{TableEntry}
use Rattle.tiles.specs.TableEntries.{entry_with, extent_round, is_in, entry_at, part_of, AreParts}
use Rattle.tiles.specs.KeptEntries.{IsKept, Joins, value_of}
use Rattle.tiles.proofs.EntryChanges.{entry_is, part_row, part_value}
use Rattle.tiles.proofs.Mappings.{start_aligned}

-- the values of the eight parts of the extent of a size round a page
abbrev pub AreValues : Arena Mapping → List (Spot Mapping) → ℕ → ℕ → Type 0
AreValues t parts size page = (other : ℕ) → other / 8 ^ size ≡ page / 8 ^ size
    → value_of parts (other / 8 ^ (size - 1) % 8) ≡ row t (size - 1) other

pub joins_parts : (t : Arena Mapping) (parts : List (Spot Mapping)) (size page : ℕ) (head : Mapping) → IsKept t → 0 < size → size ≤ 3
    → AreValues t parts size page → Joins parts (8 ^ (size - 1)) head → AreParts (entry_with size page head) t
joins_parts t parts size page head kept large low values joins = record {
  aligned = ap (λ n. head.frame % n) (eight_parts size large) ∙ joins.aligned;
  at = at;
}
  where
    at : (other : ℕ) → is_in (extent_round size page) other ≡ true → entry_at t other ≡ Some (part_of (entry_with size page head) other)
    at other inside =
        let same = eqb-true _ _ inside in
        let value = sym (values other (same ∙ first_of_extent size page)) ∙ joins.follow (other / 8 ^ (size - 1) % 8) (omega arith) in
        let offset = part_value (entry_with size page head) other large
        (low, start_aligned size page (extent_start size page) low refl) same in
        entry_is t (size - 1) other (part_of (entry_with size page head) other).mapping kept (omega arith) (value ∙ ap Some offset)

-- a part's first page
part_page : (size page part : ℕ) → 0 < size → size ≤ 3 → part < 8
    → ((extent_start size page + part * 8 ^ (size - 1)) / 8 ^ size ≡ page / 8 ^ size)
    × ((extent_start size page + part * 8 ^ (size - 1)) / 8 ^ (size - 1) % 8 ≡ part)
    × (extent_start (size - 1) (extent_start size page + part * 8 ^ (size - 1)) ≡ extent_start size page + part * 8 ^ (size - 1))
part_page zero page part large low small = absurd (omega arith)
part_page (suc zero) page part large low small = (omega arith, omega arith, omega arith)
part_page (suc (suc zero)) page part large low small = (omega arith, omega arith, omega arith)
part_page (suc (suc (suc zero))) page part large low small = (omega arith, omega arith, omega arith)
part_page (suc (suc (suc (suc size)))) page part large low small = absurd (omega arith)

parts_join : (t : Arena Mapping) (parts : List (Spot Mapping)) (size page : ℕ) (head : Mapping) → 0 < size → size ≤ 3
    → AreValues t parts size page → AreParts (entry_with size page head) t → Joins parts (8 ^ (size - 1)) head
parts_join t parts size page head large low values are = record {
  begins = follow 0 (omega arith) ∙ ap
      (λ n. Some (record { frame = n; region = head.region; rights = head.rights; dirty = head.dirty })) {x = head.frame + 0 * 8 ^
      (size - 1)} {y = head.frame} (omega arith);
  aligned = ap (λ n. head.frame % n) (sym (eight_parts size large)) ∙ are.aligned;
  follow = follow;
}
  where
    follow : (part : ℕ) → part < 8 → value_of parts part ≡ Some (moved_by (part * 8 ^ (size - 1)) head)
    follow part small =
        let at = part_page size page part large low small in
        let other = extent_start size page + part * 8 ^ (size - 1) in
        let offset : extent_start (size - 1) other - extent_start size page ≡ part * 8 ^ (size - 1) = omega (arith, at.2) in
        ap (value_of parts) (sym at.1)
        ∙ (values other at.0
        ∙ (part_row t (entry_with size page head) other are (at.0 ∙ sym (first_of_extent size page))
        ∙ ap (λ n. Some (moved_by n head)) offset))

-- an entry by its extent
by_extent : (whole : TableEntry) (size page : ℕ) → whole.extent ≡ extent_round size page → whole ≡ entry_with size page whole.mapping
by_extent whole size page e = ap (λ x. record { extent = x; mapping = whole.mapping }) e

-- where they don't, they form none
pub no_whole : (t : Arena Mapping) (parts : List (Spot Mapping)) (size page pages : ℕ) → 0 < size → size ≤ 3 → pages ≡ 8 ^ (size - 1)
    → AreValues t parts size page → ((head : Mapping) → Joins parts pages head → ⊥)
    → (whole : TableEntry) → whole.extent ≡ extent_round size page → AreParts whole t → ⊥
no_whole t parts size page pages large low e values none whole extent are =
    none whole.mapping
    (subst (λ n. Joins parts n whole.mapping) (sym e) (parts_join t parts size page whole.mapping large low values
    (subst (λ (w : TableEntry). AreParts w t) (by_extent whole size page extent) are)))
