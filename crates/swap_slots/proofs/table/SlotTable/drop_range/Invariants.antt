use Rattle.std.proofs.Common.{◌≡◌, ℕ, if◌then◌else◌, ◌&&◌, nat_lt, nat_le}
use Rattle.swap_slots.specs.declared.table.PageCopy.TheVariants.{Zero}
use Rattle.swap_slots.specs.Slots.{copy_of, HaveOwnSlots}
use Rattle.swap_slots.proofs.table.SlotTable.drop_range.Given as goal

-- the pages of the range below this one are zero, and any other is as at first
abbrev pub invariant-loop-page : goal.invariant-loop-page
invariant-loop-page l =
    (l.self.count ≡ l.fn.self.count)
    × ((p : ℕ) → copy_of l.self p ≡ (if nat_le l.first p && nat_lt p l.page then Zero else copy_of l.fn.self p))
    × HaveOwnSlots l.self
