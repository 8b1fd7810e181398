-- What an extent for a reservation has to meet.
use Rattle.std.specs.Prelude.{ℕ, ◌≡◌, ◌+◌, ◌^◌, ◌≤◌, Bool, false}
use Rattle.pager_model.specs.Extents.{extent_start}
use Rattle.pager_model.specs.declared.entry.Want.{Want}

-- the extent of size k round the page lies from the want's low to before its high, and has at most the cap's number of pages
abbrev pub LiesWithin : Want → ℕ → ℕ → Type 0
LiesWithin want page k =
    (want.low ≤ extent_start k page) × (extent_start k page + 8 ^ k ≤ want.high) × (8 ^ k ≤ want.cap)

-- it lies within the want, and by the test it meets no reservation
abbrev pub Suits : (ℕ → ℕ → Bool) → ℕ → Want → ℕ → Type 0
Suits meets page want k = LiesWithin want page k × (meets k (extent_start k page) ≡ false)
