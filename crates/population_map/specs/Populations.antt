-- Which extents of pages are placed with which id, and which pages of them are populated. Pages are counted over all spaces.
use Rattle.std.specs.Prelude.{ℕ, ◌≡◌, ◌≢◌, ◌+◌, ◌*◌, ◌/◌, ◌%◌, ◌^◌, ◌≤◌, ◌⊎◌, suc, Bool, true, false, ◌||◌, ◌==◌, List, Option, Some, None, unwrap_or, is_some, count_by}
use Rattle.std.specs.List.{range_with_len, slice_get}
use Rattle.std.specs.Int.{bit_at}
use Rattle.extent_tree.specs.Rows.{Arena, row}
use Rattle.population_map.specs.declared.mark.Mark.{Mark}
use Rattle.pager_model.specs.Bounds.{space_pages}

-- the number of a page of a space: the pages of the spaces before it come first
abbrev pub page_at : ℕ → ℕ → ℕ
page_at space page = space_pages * space + page

-- what contracts see of a population map
abbrev pub Populations : Type 0
Populations = Arena Mark

-- nothing is kept of an extent
abbrev pub unmarked : Mark
unmarked = record { id = None; some = 0; full = 0 }

-- what is kept of an extent that is placed with this id and has no populated page
abbrev pub placed_mark : ℕ → Mark
placed_mark id = record { id = Some id; some = 0; full = 0 }

-- what is kept of the extent of a size round a page
unfoldable pub mark_of : Arena Mark → ℕ → ℕ → Mark
mark_of m size page = unwrap_or (row m size page) unmarked

-- the id that the extent of a size round a page is placed with, where it is placed
unfoldable pub id_of : Arena Mark → ℕ → ℕ → Option ℕ
id_of m size page = (mark_of m size page).id

-- a placed extent has the page
unfoldable pub is_placed : Arena Mark → ℕ → Bool
is_placed m page = is_some (id_of m 0 page) || is_some (id_of m 1 page) || is_some (id_of m 2 page) || is_some (id_of m 3 page)

-- the page is populated
unfoldable pub is_populated : Arena Mark → ℕ → Bool
is_populated m page = bit_at (mark_of m 1 page).some (page % 8) == 1

-- how many pages the placed extents have
unfoldable pub placed_pages : Arena Mark → ℕ
placed_pages m = count_by (is_placed m) (range_with_len 0 (512 * m.roots))

-- how many spaces there are
abbrev pub space_count : Arena Mark → ℕ
space_count m = m.roots / 2048

-- how many pages there is room to place
abbrev pub frame_count : Arena Mark → ℕ
frame_count m = m.room / 3

-- spaces and frames stay
pub record SameRoom (old new : Arena Mark) : Type 0 where
  pub roots : new.roots ≡ old.roots
  pub room : new.room ≡ old.room

-- the extent of a size round a page is placed with this id afterwards, or isn't placed, and no other changes
pub record PlacesOnly (old new : Arena Mark) (size page : ℕ) (id : Option ℕ) : Type 0 where
  pub changed : (other : ℕ) → other / 8 ^ size ≡ page / 8 ^ size → id_of new size other ≡ id
  pub others : (part other : ℕ) → part ≤ 3 → (part ≡ size → other / 8 ^ part ≡ page / 8 ^ part → ⊥)
      → id_of new part other ≡ id_of old part other

-- the extent of a size round a page isn't placed afterwards, each of its eight parts is placed with the id of its number, and no other
-- changes
pub record PlacesParts (old new : Arena Mark) (size page : ℕ) (ids : List ℕ) : Type 0 where
  pub whole : (other : ℕ) → other / 8 ^ size ≡ page / 8 ^ size → id_of new size other ≡ None
  pub parts : (part other : ℕ) → suc part ≡ size → other / 8 ^ size ≡ page / 8 ^ size
      → id_of new part other ≡ slice_get ids (other / 8 ^ part % 8)
  pub others : (part other : ℕ) → part ≤ 3 → (part ≡ size ⊎ suc part ≡ size → other / 8 ^ size ≡ page / 8 ^ size → ⊥)
      → id_of new part other ≡ id_of old part other

-- no page of the extent of a size round a page is populated afterwards, and no other page changes
pub record EmptiesOnly (old new : Arena Mark) (size page : ℕ) : Type 0 where
  pub emptied : (other : ℕ) → other / 8 ^ size ≡ page / 8 ^ size → is_populated new other ≡ false
  pub others : (other : ℕ) → other / 8 ^ size ≢ page / 8 ^ size → is_populated new other ≡ is_populated old other

-- a page is populated afterwards or isn't, no other page changes, and the same extents are placed
pub record PopulatesOnly (old new : Arena Mark) (page : ℕ) (is_in : Bool) : Type 0 where
  pub changed : is_populated new page ≡ is_in
  pub others : (other : ℕ) → other ≢ page → is_populated new other ≡ is_populated old other
  pub ids : (size other : ℕ) → size ≤ 3 → id_of new size other ≡ id_of old size other

-- no placed extent has the page
abbrev pub IsInNone : Arena Mark → ℕ → Type 0
IsInNone m page = (size : ℕ) → size ≤ 3 → id_of m size page ≡ None

-- a page of the extent of a size round a page is populated
abbrev pub SomePopulated : Arena Mark → ℕ → ℕ → Type 0
SomePopulated m size page = (in_it : ℕ) × (in_it / 8 ^ size ≡ page / 8 ^ size) × (is_populated m in_it ≡ true)

-- all pages of the extent are
abbrev pub AllPopulated : Arena Mark → ℕ → ℕ → Type 0
AllPopulated m size page = (in_it : ℕ) → in_it / 8 ^ size ≡ page / 8 ^ size → is_populated m in_it ≡ true
