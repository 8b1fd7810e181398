-- The range of pages in which a change touched the tiles that there were.
use Rattle.std.specs.Prelude.{ℕ, ◌+◌, ◌^◌, ◌≤◌, Bool}
use Rattle.pager_model.specs.declared.page_range.PageRange.{PageRange}
use Rattle.pager_model.specs.Bounds.{space_pages}
use Rattle.pager_model.specs.Extents.{extent_start}
use Rattle.pager_model.specs.Regions.{in_range}

abbrev pub IsInSpace : PageRange → Type 0
IsInSpace range = range.first + range.length ≤ space_pages

-- the page is one of the range
abbrev pub is_touched : PageRange → ℕ → Bool
is_touched range page = in_range range.first range.length page

-- the pages of the extent of a size round a page
abbrev pub extent_range : ℕ → ℕ → PageRange
extent_range size page = record { first = extent_start size page; length = 8 ^ size }
