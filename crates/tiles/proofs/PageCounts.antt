-- How many pages are mapped.
use Rattle.std.proofs.Common.{◌≡◌, ◌≢◌, ℕ, ◌+◌, ◌/◌, ◌^◌, ◌<◌, ◌≤◌, true, false, None, is_some, refl, sym, ap, ◌∙◌, arith}
use Rattle.std.specs.List.{range_with_len, count_by}
use Rattle.pager_model.specs.Bounds.{space_pages}
use Rattle.pager_model.specs.declared.extent.Extent.{Extent}
use Rattle.pager_model.specs.declared.tile.Mapping.{Mapping}
use Rattle.pager_model.specs.Extents.{IsExtent}
use Rattle.pager_model.specs.Tiles.{count_pages}
use Rattle.pager_model.proofs.CountLemmas.{count_block, count-agree, count-none}
use Rattle.pager_model.proofs.ExtentLemmas.{extent_within, in_extent, of_extent}
use Rattle.extent_tree.specs.Rows.{Arena}
use Rattle.tiles.specs.TableEntries.{entry_at, pages_in}

-- they are counted over so many pages
pub pages_over : (m : Arena Mapping) (pages : ℕ) → pages ≡ space_pages → pages_in m ≡ count_by (λ page. is_some (entry_at m page))
    (range_with_len 0 pages)
unfolding pages_in count_pages
pages_over m pages e = ap (λ n. count_by (λ page. is_some (entry_at m page)) (range_with_len 0 n)) (sym e)

-- an extent that begins in the space ends in it
pub ends_within : (extent : Extent) (pages : ℕ) → IsExtent extent.size extent.first → extent.first < space_pages → pages ≡ space_pages
    → extent.first + 8 ^ extent.size ≤ pages
ends_within extent pages is inside e = omega (arith, extent_within extent.size extent.first 2048 is.0 is.1 (omega (arith, inside)), e)

-- the pages of an extent are mapped where none was
pub more_pages : (few many : Arena Mapping) (extent : Extent) → IsExtent extent.size extent.first → extent.first < space_pages
    → ((page : ℕ) → page / 8 ^ extent.size ≡ extent.first / 8 ^ extent.size
    → (is_some (entry_at few page) ≡ false) × (is_some (entry_at many page) ≡ true))
    → ((page : ℕ) → page / 8 ^ extent.size ≢ extent.first / 8 ^ extent.size → entry_at many page ≡ entry_at few page)
    → pages_in many ≡ pages_in few + 8 ^ extent.size
more_pages few many extent is within inside outside = over space_pages refl
  where
    over : (pages : ℕ) → pages ≡ space_pages → pages_in many ≡ pages_in few + 8 ^ extent.size
    over pages e =
        omega (
          arith,
          pages_over few pages e,
          pages_over many pages e,
          count_block (λ page. is_some (entry_at few page)) (λ page. is_some (entry_at many page)) pages extent.first (8 ^ extent.size)
              (ends_within extent pages is within e)
              (λ page low high. inside page (in_extent extent.size extent.first page is.0 is.1 low high))
              (λ page apart. ap is_some
              (outside page (λ at. let in_it = of_extent extent.size extent.first page is.0 is.1 at in apart in_it.0 in_it.1))),
        )

-- as many are where the same pages are
pub same_pages : (m n : Arena Mapping) → ((page : ℕ) → is_some (entry_at m page) ≡ is_some (entry_at n page)) → pages_in m ≡ pages_in n
same_pages m n alike = over space_pages refl
  where
    over : (pages : ℕ) → pages ≡ space_pages → pages_in m ≡ pages_in n
    over pages e =
        pages_over m pages e ∙ (count-agree (λ page. is_some (entry_at m page)) (λ page. is_some (entry_at n page)) 0 pages
        (λ page _ _. alike page) ∙ sym (pages_over n pages e))

pub no_pages : (m : Arena Mapping) → ((page : ℕ) → entry_at m page ≡ None) → pages_in m ≡ 0
no_pages m none = over space_pages refl
  where
    over : (pages : ℕ) → pages ≡ space_pages → pages_in m ≡ 0
    over pages e = pages_over m pages e ∙ count-none (λ page. is_some (entry_at m page)) 0 pages (λ page _ _. ap is_some (none page))
