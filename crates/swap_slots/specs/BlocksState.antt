-- What a `MemoryBlocks` is to a caller.
use Rattle.std.specs.Prelude.{ℕ, true, List, length, Option}
use Rattle.swap_slots.specs.Devices.{Device}

-- the words of its slots, where it fails, and how often it was called
pub record BlocksState : Type 0 where
  -- the words of each slot, or nothing where a write of them failed
  pub slots : List (Option (List ℕ))
  -- the numbers of the reads that fail, counted from 1
  pub failing_reads : List ℕ
  -- the numbers of the writes that fail, counted from 1
  pub failing_writes : List ℕ
  -- how many reads there were
  pub reads : ℕ
  -- how many writes there were
  pub writes : ℕ
  -- how many reads and writes failed
  pub faults : ℕ

-- blocks in memory as a device, which tells its words
abbrev pub device_of : BlocksState → Device
device_of b = record { slots = length b.slots; tells = true; words = b.slots; reads = b.reads; writes = b.writes; faults = b.faults }
