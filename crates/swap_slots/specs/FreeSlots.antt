-- The bits of the free slots beside the copies of the pages.
use Rattle.std.specs.Prelude.{ℕ, ◌≡◌, ◌≤◌, Bool, false, List, length, slice_index_or, slice_set}
use Rattle.swap_slots.specs.declared.table.PageCopy.{PageCopy}
use Rattle.swap_slots.specs.declared.table.PageCopy.TheVariants.{Zero, Lost, Slot}
use Rattle.swap_slots.specs.Slots.{Slots, is_free, HaveOwnSlots}

-- the bits, where that of a copy's slot is written
abbrev pub with_slot : List Bool → PageCopy → Bool → List Bool
with_slot bits Zero b = bits
with_slot bits Lost b = bits
with_slot bits (Slot s) b = slice_set bits s b

-- each slot has a bit, which says whether it is free
pub record AreSlots (slots : Slots) (bits : List Bool) : Type 0 where
  pub own : HaveOwnSlots slots
  pub free : (s : ℕ) → slice_index_or bits s false ≡ is_free slots s
  pub wide : slots.count ≤ length bits
