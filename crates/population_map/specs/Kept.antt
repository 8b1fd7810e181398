-- What the marks of a population map keep.
use Rattle.std.specs.Prelude.{ℕ, ◌≡◌, ◌*◌, ◌/◌, ◌%◌, ◌^◌, ◌<◌, ◌≤◌, ◌⊎◌, ◌↔◌, suc, true, Option, Some, None, is_some, if◌then◌else◌, ◌&&◌, ◌==◌, is_none}
use Rattle.std.specs.Int.{bit_at}
use Rattle.extent_tree.specs.Rows.{Arena, row, SplitsAreRowsBelow}
use Rattle.population_map.specs.declared.mark.Mark.{Mark}
use Rattle.population_map.specs.Bits.{HasBit, HasAllBits}
use Rattle.population_map.specs.Populations.{mark_of, id_of, is_placed, is_populated, placed_pages, frame_count}

-- Each row is of a placed extent or of one with a populated page. A mark's bit of a part says whether the part has a populated page,
-- and whether all its pages are populated. A populated page is in a placed extent, and no two placed extents have a page in common.
pub record AreMarks (m : Arena Mark) : Type 0 where
  pub splits : SplitsAreRowsBelow m
  pub in_use : (size page : ℕ) → size ≤ 3 → is_some (row m size page) ≡ true
      → (is_some (id_of m size page) ≡ true) ⊎ (HasBit (mark_of m size page).some ⊎ HasBit (mark_of m size page).full)
  pub no_parts : (page : ℕ) → ((mark_of m 0 page).some ≡ 0) × ((mark_of m 0 page).full ≡ 0)
  pub pages_full : (page : ℕ) → (mark_of m 1 page).full ≡ (mark_of m 1 page).some
  pub some : (size page : ℕ) → 0 < size → size < 3
      → (bit_at (mark_of m (suc size) page).some (page / 8 ^ size % 8) ≡ 1) ↔ HasBit (mark_of m size page).some
  pub full : (size page : ℕ) → 0 < size → size < 3
      → (bit_at (mark_of m (suc size) page).full (page / 8 ^ size % 8) ≡ 1) ↔ HasAllBits (mark_of m size page).full
  pub placed : (page : ℕ) → is_populated m page ≡ true → is_placed m page ≡ true
  pub apart : (a b page : ℕ) → a ≤ 3 → b ≤ 3 → is_some (id_of m a page) ≡ true → is_some (id_of m b page) ≡ true → a ≡ b

-- and there is room for the nodes of all that may be placed in so many spaces
pub record IsPopulation (spaces : ℕ) (m : Arena Mark) : Type 0 where
  pub marks : AreMarks m
  pub few : placed_pages m ≤ frame_count m
  pub thirds : m.room % 3 ≡ 0
  pub whole : m.roots ≡ 2048 * spaces
  pub known : m.roots ≤ 2097152
  pub small : m.room ≤ 50331648

-- a mark is kept where it says something
abbrev pub kept : Mark → Option Mark
kept mark = if is_none mark.id && mark.some == 0 && mark.full == 0 then None else Some mark

-- the marks over a page are those of the way afterwards, and no other row changes
pub record WritesWay (old new : Arena Mark) (page : ℕ) (small middle large : Mark) : Type 0 where
  pub splits : SplitsAreRowsBelow new
  pub roots : new.roots ≡ old.roots
  pub room : new.room ≡ old.room
  pub of_8 : (other : ℕ) → other / 8 ^ 1 ≡ page / 8 ^ 1 → row new 1 other ≡ kept small
  pub of_64 : (other : ℕ) → other / 8 ^ 2 ≡ page / 8 ^ 2 → row new 2 other ≡ kept middle
  pub of_512 : (other : ℕ) → other / 8 ^ 3 ≡ page / 8 ^ 3 → row new 3 other ≡ kept large
  pub others : (size other : ℕ) → size ≤ 3 → (0 < size → other / 8 ^ size ≡ page / 8 ^ size → ⊥) → row new size other ≡ row old size other

-- a mark after the mark of a part of its changed
pub record IsCarried (old new : Mark) (part : ℕ) (below : Mark) : Type 0 where
  pub id : new.id ≡ old.id
  pub small : (new.some < 256) × (new.full < 256)
  pub some : (bit_at new.some part ≡ 1) ↔ HasBit below.some
  pub full : (bit_at new.full part ≡ 1) ↔ HasAllBits below.full
  pub others : (other : ℕ) → other < 8 → (other ≡ part → ⊥) → (bit_at new.some other ≡ bit_at old.some other)
      × (bit_at new.full other ≡ bit_at old.full other)
