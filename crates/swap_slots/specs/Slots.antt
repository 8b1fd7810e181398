-- Which slot each page has, and which slots are free.
use Rattle.std.specs.Prelude.{ℕ, ◌≡◌, ◌<◌, Bool, true, false, ◌&&◌, not, ◌==◌, nat_lt, if◌then◌else◌, List, slice_index_or, count_by, Option, Some, None, MatchOption}
use Rattle.std.specs.List.{list_any, range_with_len}
use Rattle.swap_slots.specs.declared.table.PageCopy.{PageCopy}
use Rattle.swap_slots.specs.declared.table.PageCopy.TheVariants.{Zero, Lost, Slot}

-- where the copies of a space's pages are
pub record Slots : Type 0 where
  -- how many slots there are
  pub count : ℕ
  -- where the copy of each page is; that of a page past their end is zero
  pub pages : List PageCopy

-- where the copy of a page is
abbrev pub copy_of : Slots → ℕ → PageCopy
copy_of slots page = slice_index_or slots.pages page Zero

-- the slot of a copy, if it is in one
abbrev pub slot_in : PageCopy → Option ℕ
slot_in Zero = None
slot_in Lost = None
slot_in (Slot s) = Some s

-- the copy is in this slot
abbrev pub is_in : ℕ → PageCopy → Bool
is_in s Zero = false
is_in s Lost = false
is_in s (Slot t) = s == t

-- a slot is free where no page has it
abbrev pub is_free : Slots → ℕ → Bool
is_free slots s = nat_lt s slots.count && not (list_any (is_in s) slots.pages)

-- how many slots are free
abbrev pub free_count : Slots → ℕ
free_count slots = count_by (is_free slots) (range_with_len 0 slots.count)

-- a slot is free, and no lower one is
abbrev pub IsLowestFree : Slots → ℕ → Type 0
IsLowestFree slots s = (is_free slots s ≡ true) × ((lower : ℕ) → lower < s → is_free slots lower ≡ false)

-- the slot that a write of a page goes to: its own, else the lowest free one
abbrev pub IsSlotFor : Slots → ℕ → ℕ → Type 0
IsSlotFor slots page s = MatchOption (slot_in (copy_of slots page)) (IsLowestFree slots s) (λ own. s ≡ own)

-- a write of a page has no slot to go to: the page has none, and none is free
pub record LacksSlot (slots : Slots) (page : ℕ) : Type 0 where
  pub unplaced : slot_in (copy_of slots page) ≡ None
  pub full : (s : ℕ) → is_free slots s ≡ false

-- each page that has a slot has one that is there, and no two pages have the same
pub record HaveOwnSlots (slots : Slots) : Type 0 where
  pub there : (page s : ℕ) → copy_of slots page ≡ Slot s → s < slots.count
  pub apart : (page other s : ℕ) → copy_of slots page ≡ Slot s → copy_of slots other ≡ Slot s → page ≡ other

-- the copy of a page is there, and that of every other page where it was
pub record SetsPage (page : ℕ) (copy : PageCopy) (old new : Slots) : Type 0 where
  pub count : new.count ≡ old.count
  pub copies : (p : ℕ) → copy_of new p ≡ (if p == page then copy else copy_of old p)
