-- The preferred size of a reservation for a page.
use Rattle.std.specs.Prelude.{ℕ, zero, suc, ◌+◌, ◌^◌, ◌<◌, ◌≤◌, Bool, ◌&&◌, not, nat_le, if◌then◌else◌}
use Rattle.pager_model.specs.declared.entry.Want.{Want}
use Rattle.pager_model.specs.Extents.{extent_start}
use Rattle.pager_model.specs.SizeSets.{SizeSet, has_size}
use Rattle.pager_model.specs.Bounds.{space_pages}

-- the want is one for the page, in a space of pages
pub record IsWanted (want : Want) (page : ℕ) : Type 0 where
  pub low : want.low ≤ page
  pub high : page < want.high
  pub in_space : want.high ≤ space_pages
  pub cap : 1 ≤ want.cap

-- The extent of size k round the page lies from the want's low to before its high, has at most the cap's number of pages, and
-- meets nothing; whether an extent of a size and a first page meets a reservation of the space is a test.
abbrev pub fits : (ℕ → ℕ → Bool) → ℕ → Want → ℕ → Bool
fits meets page want k =
    (nat_le want.low (extent_start k page) && nat_le (extent_start k page + 8 ^ k) want.high) &&
    (nat_le (8 ^ k) want.cap && not (meets k (extent_start k page)))

-- The preferred size by all four sizes: the largest whose extent round the page fits. Where the want is one for the page and no
-- reservation of the space has it, the page alone always fits; a taking asks for the size only there, so that size 0 needs no test.
abbrev pub preferred_size : (ℕ → ℕ → Bool) → ℕ → Want → ℕ
preferred_size meets page want =
    if fits meets page want 3 then 3 else (if fits meets page want 2 then 2 else (if fits meets page want 1 then 1 else 0))

-- the largest of some sizes, up to this one, whose extent round the page fits
abbrev pub largest_fitting : SizeSet → (ℕ → ℕ → Bool) → ℕ → Want → ℕ → ℕ
largest_fitting z meets page want zero = 0
largest_fitting z meets page want (suc k) =
    if has_size z (suc k) && fits meets page want (suc k) then suc k else largest_fitting z meets page want k

-- the preferred size by these sizes: the largest of them whose extent round the page fits
abbrev pub preferred_among : SizeSet → (ℕ → ℕ → Bool) → ℕ → Want → ℕ
preferred_among z meets page want = largest_fitting z meets page want 3
