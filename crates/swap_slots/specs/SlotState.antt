-- What a `SlotStore` is to a caller, and as a backing store.
use Rattle.std.specs.Prelude.{ℕ, ◌+◌, Bool, true, false, ◌&&◌, min, List, [], ◌∷◌, Option, Some, None}
use Rattle.std.specs.List.{list_all, range_with_len}
use Rattle.pager_model.specs.Bounds.{space_pages}
use Rattle.pager_model.specs.SpaceStates.{last_count}
use Rattle.pager_model.specs.Stored.{Copy, Stored, zero_words}
use Rattle.swap_slots.specs.declared.table.PageCopy.{PageCopy}
use Rattle.swap_slots.specs.declared.table.PageCopy.TheVariants.{Zero, Lost, Slot}
use Rattle.swap_slots.specs.Devices.{Device, words_at, SetsWords}
use Rattle.swap_slots.specs.Slots.{Slots, IsSlotFor, SetsPage}

-- its device, where its copies are, how often it was read and written, and how many writes had no slot to go to
pub record SlotState : Type 0 where
  pub device : Device
  pub slots : Slots
  -- how many reads there were, those of pages without a slot among them
  pub reads : ℕ
  -- how many writes there were, those without a slot to go to among them
  pub writes : ℕ
  -- how many writes were refused since no slot was free
  pub refused : ℕ

-- the words of a copy: zero, unknown where it is lost, else those of its slot
abbrev pub words_of : Device → PageCopy → Option (List ℕ)
words_of device Zero = Some zero_words
words_of device Lost = None
words_of device (Slot s) = words_at device s

-- the copies of these pages, of which the first has this number
abbrev pub copies_from : Device → ℕ → List PageCopy → List Copy
copies_from device page [] = []
copies_from device page (c ∷ cs) = record { page = page; words = words_of device c } ∷ copies_from device (page + 1) cs

-- a copy is zero
abbrev pub is_zero : PageCopy → Bool
is_zero Zero = true
is_zero Lost = false
is_zero (Slot s) = false

-- how many pages a space has, which doesn't unfold by itself
unfoldable pub page_count : ℕ
page_count = space_pages

-- the pages of a space
unfoldable pub all_pages : List ℕ
all_pages = range_with_len 0 page_count

-- a slot store as a backing store: it keeps the pages of a space, and its faults are those of its device and the writes that it refused
abbrev pub stored_slots : SlotState → Stored
stored_slots s =
    record {
      tells = s.device.tells;
      told = s.device.tells && list_all is_zero s.slots.pages;
      copies = copies_from s.device 0 s.slots.pages;
      kept = Some all_pages;
      faults = min (s.device.faults + s.refused) last_count;
    }

-- these words of a page go to its own slot, else to the lowest free one, and its copy is there, or lost, afterwards
pub record WritesTo (page s : ℕ) (copy : PageCopy) (words : Option (List ℕ)) (old new : SlotState) : Type 0 where
  pub slot : IsSlotFor old.slots page s
  pub set : SetsPage page copy old.slots new.slots
  pub wrote : SetsWords s words old.device new.device
