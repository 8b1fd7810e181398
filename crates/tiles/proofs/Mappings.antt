-- Which entry maps a page, and what it says of the page, after a change of an extent.
use Rattle.std.proofs.Common.{◌≡◌, ◌≢◌, ℕ, zero, suc, ◌+◌, ◌-◌, ◌/◌, ◌%◌, ◌^◌, ◌<◌, ◌≤◌, cond, Option, Some, option_map, inl, inr, sym, ap, ◌∙◌, arith}
use Rattle.std.proofs.Math.Nat.{div-mul-le_self, lt-div-mul-add}
use Rattle.std.proofs.lemmas.Bool.{cases_eq, eq-eqb, ne_eqb}
use Rattle.pager_model.specs.declared.extent.Extent.{Extent}
use Rattle.pager_model.specs.declared.tile.Mapping.{Mapping}
use Rattle.pager_model.specs.Extents.{IsExtent, extent_start}
use Rattle.pager_model.proofs.ExtentLemmas.{eight_pos}
use Rattle.extent_tree.specs.Rows.{Arena}
use Rattle.tiles.specs.declared.entry.TableEntry.{TableEntry}
use Rattle.tiles.specs.TableEntries.{entry_at, mapping_at, mapping_of, part_of, AreEntries, AreParts, Maps}

-- ---- entries after a change

pub maps_inside : (old new : Arena Mapping) (extent : Extent) (given : ℕ → Option TableEntry) (page : ℕ) → Maps extent given old new
    → page / 8 ^ extent.size ≡ extent.first / 8 ^ extent.size → entry_at new page ≡ given page
maps_inside old new extent given page maps at = maps.at page ∙ ap (λ b. cond b (given page) (entry_at old page)) (eq-eqb _ _ at)

pub maps_outside : (old new : Arena Mapping) (extent : Extent) (given : ℕ → Option TableEntry) (page : ℕ) → Maps extent given old new
    → page / 8 ^ extent.size ≢ extent.first / 8 ^ extent.size → entry_at new page ≡ entry_at old page
maps_outside old new extent given page maps apart = maps.at page ∙ ap (λ b. cond b (given page) (entry_at old page)) (ne_eqb _ _ apart)

-- ---- the pages of an entry

-- the first page of an entry that maps a page
pub first_is : (m : Arena Mapping) (page : ℕ) (entry : TableEntry) → AreEntries m → entry_at m page ≡ Some entry
    → extent_start entry.extent.size page ≡ entry.extent.first
first_is m page entry entries at = ap (λ (x : Extent). x.first) (entries.round page entry at)

-- a page lies within the entry that maps it
pub within : (m : Arena Mapping) (page : ℕ) (entry : TableEntry) → AreEntries m → entry_at m page ≡ Some entry
    → (entry.extent.first ≤ page) × (page < entry.extent.first + 8 ^ entry.extent.size)
within m page entry entries at =
    let first = first_is m page entry entries at in (
      omega (arith, first, div-mul-le_self page (8 ^ entry.extent.size)),
      omega (arith, first, lt-div-mul-add {a = page} (eight_pos entry.extent.size)),
    )

-- an extent begins at a multiple of its size
pub start_aligned : (size page first : ℕ) → size ≤ 3 → extent_start size page ≡ first → first % 8 ^ size ≡ 0
start_aligned zero page first low starts = omega arith
start_aligned (suc zero) page first low starts = omega arith
start_aligned (suc (suc zero)) page first low starts = omega arith
start_aligned (suc (suc (suc zero))) page first low starts = omega arith
start_aligned (suc (suc (suc (suc size)))) page first low starts = absurd (omega arith)

-- and an entry's pages are one
pub is_extent : (m : Arena Mapping) (page : ℕ) (entry : TableEntry) → AreEntries m → entry_at m page ≡ Some entry
    → IsExtent entry.extent.size entry.extent.first
is_extent m page entry entries at =
    let low = entries.low page entry at in
    (low, start_aligned entry.extent.size page entry.extent.first low (first_is m page entry entries at))

-- ---- mappings after a change

mapping_by : (old new : Arena Mapping) (page : ℕ) → entry_at new page ≡ entry_at old page → mapping_at new page ≡ mapping_at old page
unfolding mapping_at
mapping_by old new page same = ap (option_map (λ entry. mapping_of entry page)) same

-- the part round a page begins in the whole
pub starts_within : (size page : ℕ) → size ≤ 3 → extent_start size page ≤ extent_start (size - 1) page
starts_within zero page low = omega arith
starts_within (suc zero) page low = omega arith
starts_within (suc (suc zero)) page low = omega arith
starts_within (suc (suc (suc zero))) page low = omega arith
starts_within (suc (suc (suc (suc size)))) page low = absurd (omega arith)

-- an entry's part says of a page what the entry does
pub part_mapping : (whole : TableEntry) (page : ℕ) → whole.extent.size ≤ 3 → extent_start whole.extent.size page ≡ whole.extent.first
    → mapping_of (part_of whole page) page ≡ mapping_of whole page
part_mapping whole page low first =
    let size = whole.extent.size in
    let part = extent_start (size - 1) page in
    ap (λ n. record { frame = n; region = whole.mapping.region; rights = whole.mapping.rights; dirty = whole.mapping.dirty })
    {x = whole.mapping.frame + (part - whole.extent.first) + (page - part)} {y = whole.mapping.frame + (page - whole.extent.first)}
    (omega (arith, first, starts_within size page low, div-mul-le_self page (8 ^ (size - 1))))

by_entries : (old new : Arena Mapping) (page : ℕ) (before after : TableEntry) → entry_at old page ≡ Some before → entry_at new page ≡ Some after
    → mapping_of after page ≡ mapping_of before page → mapping_at new page ≡ mapping_at old page
unfolding mapping_at
by_entries old new page before after was is same =
    ap (option_map (λ entry. mapping_of entry page)) is ∙ (ap Some same ∙ sym (ap (option_map (λ entry. mapping_of entry page)) was))

-- a split leaves each page's mapping as it was
pub split_mapping : (old new : Arena Mapping) (whole : TableEntry) → AreEntries old → entry_at old whole.extent.first ≡ Some whole
    → Maps whole.extent (λ page. Some (part_of whole page)) old new → (p : ℕ) → mapping_at new p ≡ mapping_at old p
split_mapping old new whole entries there maps p = elim (cases_eq (p / 8 ^ whole.extent.size)
    (whole.extent.first / 8 ^ whole.extent.size)) [
      | inl at ↦
          let was = entries.one whole.extent.first p whole there (eq-eqb _ _ at) in
          by_entries old new p whole (part_of whole p) was (maps_inside old new whole.extent (λ page. Some (part_of whole page)) p maps at)
          (part_mapping whole p (entries.low p whole was) (first_is old p whole entries was))
      | inr apart ↦ mapping_by old new p (maps_outside old new whole.extent (λ page. Some (part_of whole page)) p maps apart)
    ]

-- and so does a join
pub join_mapping : (old new : Arena Mapping) (whole : TableEntry) → AreParts whole old → Maps whole.extent (λ _. Some whole) old new → (p : ℕ)
    → mapping_at new p ≡ mapping_at old p
join_mapping old new whole parts maps p = elim (cases_eq (p / 8 ^ whole.extent.size) (whole.extent.first / 8 ^ whole.extent.size)) [
  | inl at ↦
      let is = maps_inside old new whole.extent (λ _. Some whole) p maps at in
      by_entries old new p (part_of whole p) whole (parts.at p (eq-eqb _ _ at)) is
      (sym (part_mapping whole p (maps.entries.low p whole is) (first_is new p whole maps.entries is)))
  | inr apart ↦ mapping_by old new p (maps_outside old new whole.extent (λ _. Some whole) p maps apart)
]
