-- What each change does to the counts of entries.
use Rattle.std.proofs.Common.{◌≡◌, ℕ, zero, suc, ◌-◌, ◌/◌, ◌^◌, ◌<◌, ◌≤◌, cond, eqb, length, List, [], ◌∷◌, Option, Some, None, inl, inr, refl, sym, ap, ◌∙◌, arith}
use Rattle.std.specs.List.{slice_index}
use Rattle.std.proofs.lemmas.Bool.{cases_eq, eq-eqb, ne_eqb}
use Rattle.pager_model.specs.Bounds.{space_pages}
use Rattle.pager_model.specs.declared.extent.Extent.{Extent}
use Rattle.pager_model.specs.declared.tile.Mapping.{Mapping}
use Rattle.pager_model.specs.Extents.{IsExtent}
use Rattle.extent_tree.specs.Rows.{Arena}
use Rattle.tiles.specs.declared.entry.TableEntry.{TableEntry}
use Rattle.tiles.specs.TableEntries.{entry_at, part_of, Maps}
use Rattle.tiles.specs.KeptEntries.{AreCounts, Grows, IsKept}
use Rattle.tiles.proofs.EntryChanges.{entry_of_all, kept_entries, start_of}
use Rattle.tiles.proofs.EntryCounts.{HasParts, begun_in, begun_none, begun_parts, begun_other, count_change, count_within, count_most, count_none}
use Rattle.tiles.proofs.Mappings.{is_extent, maps_inside}

-- the pages of an extent have entries given by a function
abbrev pub Given : Arena Mapping → Extent → (ℕ → Option TableEntry) → Type 0
Given m extent entries = (page : ℕ) → page / 8 ^ extent.size ≡ extent.first / 8 ^ extent.size → entry_at m page ≡ entries page

-- An entry is there: each page of its extent has it.
pub record IsThere (m : Arena Mapping) (entry : TableEntry) : Type 0 where
  pub extent : IsExtent entry.extent.size entry.extent.first
  pub in_space : entry.extent.first < space_pages
  pub given : Given m entry.extent (λ _. Some entry)

pub is_there : (m : Arena Mapping) (entry : TableEntry) → IsKept m → entry_at m entry.extent.first ≡ Some entry → IsThere m entry
is_there m entry kept at =
    let entries = kept_entries m kept in
    record {
      extent = is_extent m entry.extent.first entry entries at;
      in_space = entries.in_space entry.extent.first entry at;
      given = entry_of_all m entry kept at;
    }

begun_is : (m : Arena Mapping) (extent : Extent) (part many size : ℕ) → IsExtent extent.size extent.first → HasParts m extent part
    → many ≡ 8 ^ (extent.size - part) → begun_in m extent size ≡ cond (eqb size part) many 0
begun_is m extent part many size is parts e = elim (cases_eq size part) [
  | inl here ↦ ap (begun_in m extent) here ∙ (begun_parts m extent part is parts
      ∙ (sym e ∙ sym (ap (λ b. cond b many 0) (eq-eqb size part here))))
  | inr other ↦ begun_other m extent part size is parts other ∙ sym (ap (λ b. cond b many 0) (ne_eqb size part other))
]

-- one entry has the extent
whole : (m : Arena Mapping) (extent : Extent) (entry : TableEntry) (size : ℕ) → IsExtent extent.size extent.first → entry.extent ≡ extent
    → Given m extent (λ _. Some entry) → begun_in m extent size ≡ cond (eqb size extent.size) 1 0
whole m extent entry size is e given =
    begun_is m extent extent.size 1 size is
    (record {
      low = omega arith;
      entry = λ _. entry;
      at = given;
      size = λ _. ap (λ (x : Extent). x.size) e;
      first = λ page at. ap (λ (x : Extent). x.first) e ∙ start_of extent.size extent.first page is.0 is.1 at;
    })
    (ap (λ k. 8 ^ k) {x = 0} {y = extent.size - extent.size} (omega arith))

-- its eight parts have it
eight : (m : Arena Mapping) (entry : TableEntry) (size : ℕ) → 0 < entry.extent.size → IsExtent entry.extent.size entry.extent.first
    → Given m entry.extent (λ page. Some (part_of entry page)) → begun_in m entry.extent size ≡ cond (eqb size (entry.extent.size - 1)) 8 0
eight m entry size large is given =
    begun_is m entry.extent (entry.extent.size - 1) 8 size is
    (record { low = omega arith; entry = part_of entry; at = given; size = λ _. refl; first = λ page _. refl })
    (ap (λ k. 8 ^ k) {x = 1} {y = entry.extent.size - (entry.extent.size - 1)} (omega (arith, large)))

inside : (old new : Arena Mapping) (extent : Extent) (given : ℕ → Option TableEntry) → Maps extent given old new → Given new extent given
inside old new extent given maps page at = maps_inside old new extent given page maps at

-- ---- the counts after a change

zeros : (size : ℕ) → size ≤ 3 → slice_index (0 ∷ 0 ∷ 0 ∷ 0 ∷ []) size ≡ 0
zeros zero low = refl
zeros (suc zero) low = refl
zeros (suc (suc zero)) low = refl
zeros (suc (suc (suc zero))) low = refl
zeros (suc (suc (suc (suc size)))) low = absurd (omega arith)

pub none_counts : (m : Arena Mapping) → ((page : ℕ) → entry_at m page ≡ None) → AreCounts (0 ∷ 0 ∷ 0 ∷ 0 ∷ []) m
none_counts m none = record { four = refl; each = λ size low. zeros size low ∙ sym (count_none m size none) }

pub put_counts : (old new : Arena Mapping) (entry : TableEntry) (counts after : List ℕ) → IsExtent entry.extent.size entry.extent.first
    → entry.extent.first < space_pages → Given old entry.extent (λ _. None) → Maps entry.extent (λ _. Some entry) old new
    → AreCounts counts old → Grows entry.extent.size 1 counts after → AreCounts after new
put_counts old new entry counts after is within none maps before grows = record {
  four = grows.same_length ∙ before.four;
  each = λ size low.
      omega (
        arith,
        before.each size low,
        grows.each size,
        count_change old new entry.extent (λ _. Some entry) size is within maps,
        begun_none old entry.extent size is none,
        whole new entry.extent entry size is refl (inside old new entry.extent (λ _. Some entry) maps),
      );
}

pub replace_counts : (old new : Arena Mapping) (entry before : TableEntry) (counts : List ℕ) → IsExtent entry.extent.size entry.extent.first
    → entry.extent.first < space_pages → before.extent ≡ entry.extent → Given old entry.extent (λ _. Some before)
    → Maps entry.extent (λ _. Some entry) old new
    → AreCounts counts old → AreCounts counts new
replace_counts old new entry before counts is within e there maps are = record {
  four = are.four;
  each = λ size low.
      omega (
        arith,
        are.each size low,
        count_change old new entry.extent (λ _. Some entry) size is within maps,
        whole old entry.extent before size is e there,
        whole new entry.extent entry size is refl (inside old new entry.extent (λ _. Some entry) maps),
      );
}

pub remove_counts : (old new : Arena Mapping) (entry : TableEntry) (counts after : List ℕ) → IsThere old entry
    → Maps entry.extent (λ _. None) old new → AreCounts counts old → Grows entry.extent.size 1 after counts → AreCounts after new
remove_counts old new entry counts after there maps before grows = record {
  four = sym grows.same_length ∙ before.four;
  each = λ size low.
      omega (
        arith,
        before.each size low,
        grows.each size,
        count_change old new entry.extent (λ _. None) size there.extent there.in_space maps,
        begun_none new entry.extent size there.extent (inside old new entry.extent (λ _. None) maps),
        whole old entry.extent entry size there.extent refl there.given,
      );
}

pub split_counts : (old new : Arena Mapping) (entry : TableEntry) (counts between after : List ℕ) → 0 < entry.extent.size → IsThere old entry
    → Maps entry.extent (λ page. Some (part_of entry page)) old new → AreCounts counts old → Grows entry.extent.size 1 between counts
    → Grows (entry.extent.size - 1) 8 between after → AreCounts after new
split_counts old new entry counts between after large there maps before shrinks grows = record {
  four = grows.same_length ∙ (sym shrinks.same_length ∙ before.four);
  each = λ size low.
      omega (
        arith,
        before.each size low,
        shrinks.each size,
        grows.each size,
        count_change old new entry.extent (λ page. Some (part_of entry page)) size there.extent there.in_space maps,
        whole old entry.extent entry size there.extent refl there.given,
        eight new entry size large there.extent (inside old new entry.extent (λ page. Some (part_of entry page)) maps),
      );
}

pub join_counts : (old new : Arena Mapping) (entry : TableEntry) (counts between after : List ℕ) → 0 < entry.extent.size
    → IsExtent entry.extent.size entry.extent.first → entry.extent.first < space_pages
    → Given old entry.extent (λ page. Some (part_of entry page))
    → Maps entry.extent (λ _. Some entry) old new → AreCounts counts old → Grows (entry.extent.size - 1) 8 between counts
    → Grows entry.extent.size 1 between after → AreCounts after new
join_counts old new entry counts between after large is within there maps before shrinks grows = record {
  four = grows.same_length ∙ (sym shrinks.same_length ∙ before.four);
  each = λ size low.
      omega (
        arith,
        before.each size low,
        shrinks.each size,
        grows.each size,
        count_change old new entry.extent (λ _. Some entry) size is within maps,
        eight old entry size large is there,
        whole new entry.extent entry size is refl (inside old new entry.extent (λ _. Some entry) maps),
      );
}

-- ---- there are as many as went, and a count that grows fits

pub one_there : (m : Arena Mapping) (entry : TableEntry) (counts : List ℕ) → IsThere m entry → AreCounts counts m
    → 1 ≤ slice_index counts entry.extent.size
one_there m entry counts there are =
    let size = entry.extent.size in
    omega (
      arith,
      are.each size there.extent.0,
      count_within m entry.extent size there.extent there.in_space,
      whole m entry.extent entry size there.extent refl there.given,
      ap (λ b. cond {A = ℕ} b 1 0) (eq-eqb size size refl),
    )

pub eight_there : (m : Arena Mapping) (entry : TableEntry) (counts : List ℕ) → 0 < entry.extent.size
    → IsExtent entry.extent.size entry.extent.first → entry.extent.first < space_pages
    → Given m entry.extent (λ page. Some (part_of entry page)) → AreCounts counts m
    → 8 ≤ slice_index counts (entry.extent.size - 1)
eight_there m entry counts large is within there are =
    let size = entry.extent.size - 1 in
    omega (
      arith,
      are.each size (omega (arith, is.0)),
      count_within m entry.extent size is within,
      eight m entry size large is there,
      ap (λ b. cond {A = ℕ} b 8 0) (eq-eqb size size refl),
    )

pub few : (m : Arena Mapping) (counts : List ℕ) (size : ℕ) → size ≤ 3 → AreCounts counts m → slice_index counts size ≤ space_pages
few m counts size low are = omega (arith, are.each size low, count_most m size)

pub few_between : (m : Arena Mapping) (counts between : List ℕ) (part entries size : ℕ) → size ≤ 3 → AreCounts counts m
    → Grows part entries between counts → slice_index between size ≤ space_pages
few_between m counts between part entries size low are shrinks = omega (arith, few m counts size low are, shrinks.each size)

pub are_four : (counts : List ℕ) (a b c d : ℕ) → length counts ≡ 4 → slice_index counts 0 ≡ a → slice_index counts 1 ≡ b
    → slice_index counts 2 ≡ c → slice_index counts 3 ≡ d → counts ≡ a ∷ b ∷ c ∷ d ∷ []
are_four (x ∷ y ∷ z ∷ w ∷ []) a b c d four at0 at1 at2 at3 = ap (λ n. n ∷ y ∷ z ∷ w ∷ []) at0
    ∙ (ap (λ n. a ∷ n ∷ z ∷ w ∷ []) at1 ∙ (ap (λ n. a ∷ b ∷ n ∷ w ∷ []) at2 ∙ ap (λ n. a ∷ b ∷ c ∷ n ∷ []) at3))
are_four [] a b c d four at0 at1 at2 at3 = absurd (omega arith)
are_four (x ∷ []) a b c d four at0 at1 at2 at3 = absurd (omega arith)
are_four (x ∷ y ∷ []) a b c d four at0 at1 at2 at3 = absurd (omega arith)
are_four (x ∷ y ∷ z ∷ []) a b c d four at0 at1 at2 at3 = absurd (omega arith)
are_four (x ∷ y ∷ z ∷ w ∷ v ∷ rest) a b c d four at0 at1 at2 at3 = absurd (omega arith)
