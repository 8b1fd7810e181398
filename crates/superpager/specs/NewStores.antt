-- Stores of which nothing was asked so far.
use Rattle.std.specs.Prelude.{ℕ, ◌≡◌, List, []}
use Rattle.store_core.specs.MemoryState.{MemoryState}
use Rattle.store_file.specs.FileState.{FileState, fresh}
use Rattle.swap_slots.specs.SlotState.{SlotState}

-- it keeps no copy, and none of its reads and writes is to fail
pub record IsNewMemory (store : MemoryState) : Type 0 where
  pub no_copy : store.copies ≡ []
  pub no_failing_read : store.failing_reads ≡ []
  pub no_failing_write : store.failing_writes ≡ []
  pub unread : store.reads ≡ 0
  pub unwritten : store.writes ≡ 0
  pub no_fault : store.faults ≡ 0

-- its device has so many slots, all of which it uses, and no page has one
pub record IsNewSlots (slots : ℕ) (store : SlotState) : Type 0 where
  pub device : store.device.slots ≡ slots
  pub used : store.slots.count ≡ slots
  pub no_page : store.slots.pages ≡ []
  pub no_fault : store.device.faults ≡ 0
  pub unread : store.reads ≡ 0
  pub unwritten : store.writes ≡ 0
  pub unrefused : store.refused ≡ 0

-- no page has a copy in its file
abbrev pub IsNewFile : FileState → Type 0
IsNewFile store = store ≡ fresh store.file.opened
