-- The entry of the lowest page of a range that is mapped.
use Rattle.std.proofs.Common.{◌≡◌, ℕ, ◌+◌, ◌*◌, ◌/◌, ◌^◌, ◌<◌, ◌≤◌, max, is_some, inl, inr, sym, ap, ◌∙◌, arith}
use Rattle.std.proofs.Math.Nat.{div-mul-le_self, lt-div-mul-add}
use Rattle.std.proofs.lemmas.Bool.{cases_Bool, cases_lt, false≢true}
use Rattle.std.proofs.lemmas.Option.{none-some}
use Rattle.extent_tree.specs.declared.spot.Row.{Row}
use Rattle.extent_tree.specs.Rows.{Arena, is_split, IsNextRow, NoRows, NoSplitRoots}
use Rattle.extent_tree.proofs.Rows.{row_alike}
use Rattle.pager_model.specs.declared.tile.Mapping.{Mapping}
use Rattle.pager_model.specs.Extents.{extent_start}
use Rattle.pager_model.proofs.ExtentLemmas.{eight_pos, extent_of_frame}
use Rattle.tiles.specs.TableEntries.{entry_at, entry_with, IsNextEntry, NoneMapped}
use Rattle.tiles.specs.KeptEntries.{IsKept}
use Rattle.tiles.proofs.EntryChanges.{entry_is, page_none, row_has}

-- pages without a row are mapped by no entry
pub none_mapped : (t : Arena Mapping) (from end : ℕ) → NoRows t 3 from end → NoneMapped t from end
none_mapped t from end none page low high = (page_none t page (λ size small. none size page small low high)).1

-- where no page of the roots of a range is mapped, none of these roots is split
pub none_split : (t : Arena Mapping) (from end : ℕ) → IsKept t → NoneMapped t (from / 512 * 512) ((end + 511) / 512 * 512)
    → NoSplitRoots t from end
none_split t from end kept none page low high = elim (cases_Bool (is_split t 3 page)) [
  | inr whole ↦ whole
  | inl split ↦
      let part = kept.splits.below 3 page (omega arith) split in
      let same : part.1 / 512 ≡ page / 512 = part.3 in
      absurd (false≢true (sym (ap is_some (none part.1 (omega arith) (omega arith)))
      ∙ row_has t part.0 part.1 (omega (arith, part.2)) part.4))
]

module _ (t : Arena Mapping) (from end : ℕ) (found : Row Mapping) (kept : IsKept t) (next : IsNextRow t 3 from end found) where
  -- where the row's extent begins
  first : ℕ
  first = extent_start found.size found.page

  -- no page of it is before the one that was found
  none_before : (page : ℕ) → from ≤ page → first ≤ page → page < found.page → ⊥
  unfolding first
  none_before page low inside before =
      let same : page / 8 ^ found.size ≡ found.page / 8 ^ found.size =
      extent_of_frame (found.page / 8 ^ found.size) (8 ^ found.size) page inside
      (omega (arith, before, lt-div-mul-add {a = found.page} (eight_pos found.size))) in
      none-some found.value (sym (next.lowest found.size page next.low low before)
      ∙ (row_alike t found.size page found.page next.low same ∙ next.is))

  -- so it is the first one of the range that the extent has
  pub page_is : max from (extent_start found.size found.page) ≡ found.page
  unfolding first
  page_is =
      let start = div-mul-le_self found.page (8 ^ found.size) in
      elim (cases_lt (max from (extent_start found.size found.page)) found.page) [
        | inl before ↦ absurd (none_before (max from (extent_start found.size found.page)) (omega arith) (omega arith) before)
        | inr after ↦ omega (arith, start, after, next.from_on)
      ]

  pub next_entry : IsNextEntry t from end (entry_with found.size found.page found.value)
  next_entry = record {
    before_end = omega (arith, page_is, next.before_end);
    at = ap (entry_at t) page_is ∙ entry_is t found.size found.page found.value kept next.low next.is;
    lowest = λ page low high. none_mapped t from found.page next.lowest page low
        (omega (arith, high, div-mul-le_self found.page (8 ^ found.size)));
  }
