-- The statuses of the calls, which C knows by number.
use Rattle.std.specs.Prelude.{ℕ, ◌==◌, Bool, true, not, Option, Some, None}
use Rattle.pager_model.specs.declared.entry.Want.{Want}
use Rattle.pager_model.specs.FrameStates.{FrameState, lowest_claimed}
use Rattle.pager_model.specs.SizeSets.{SizeSet}
use Rattle.frame_table.specs.declared.refusal.Refusal.{Refusal}
use Rattle.frame_table.specs.declared.refusal.Refusal.TheVariants.{NoMemory, Range, Placed, Unplaced, Full, NoVictim, Busy, Idle, Counted}
use Rattle.frame_table.specs.Refusals.{pin_refusal}
use Rattle.superpager_c.specs.declared.asked.PoolSetting.{PoolSetting}
use Rattle.superpager_c.specs.declared.asked.PageWant.{PageWant}

-- 0 where the call did what it does, and else why it did nothing
abbrev pub status_of : Option Refusal → ℕ
status_of None = 0
status_of (Some NoMemory) = 3
status_of (Some Range) = 4
status_of (Some Placed) = 5
status_of (Some Unplaced) = 6
status_of (Some Full) = 7
status_of (Some NoVictim) = 8
status_of (Some Busy) = 9
status_of (Some Idle) = 10
status_of (Some Counted) = 12

-- the status of a call by why it is refused, where the pool is open; 1 where it is closed
abbrev pub status_on : Option FrameState → (FrameState → Option Refusal) → ℕ
status_on None refusal = 1
status_on (Some st) refusal = status_of (refusal st)

-- Wiring a range is kept from it where one of its pages is claimed.
abbrev pub pin_status_in : Option Refusal → Bool → Option ℕ → ℕ
pin_status_in None true (Some page) = 11
pin_status_in refusal wired kept = status_of refusal

abbrev pub pin_status : Option FrameState → ℕ → ℕ → ℕ → ℕ → ℕ
pin_status None space first len wired = 1
pin_status (Some st) space first len wired =
    pin_status_in (pin_refusal st space first len) (not (wired == 0)) (lowest_claimed st space first len)

-- a number of C as a test: any but 0 is true
abbrev pub want_of : PageWant → Want
want_of w = record { low = w.low; high = w.high; cap = w.cap; wired = not (w.wired == 0) }

abbrev pub sizes_of : PoolSetting → SizeSet
sizes_of s = record { one = not (s.pages_8 == 0); two = not (s.pages_64 == 0); three = not (s.pages_512 == 0) }
