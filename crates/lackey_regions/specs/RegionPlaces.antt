-- Where a region stands among regions, and how far a step over pages goes.
use Rattle.std.specs.Prelude.{ℕ, ◌<◌, ◌≤◌, List, length, slice_index_or}
use Rattle.lackey_regions.specs.declared.region.Region.{Region}
use Rattle.pager_model.specs.declared.region.Rights.TheVariants.{NoAccess}

-- the region at a place
abbrev pub region_in : List Region → ℕ → Region
region_in regions place = slice_index_or regions place (record { first = 0; end = 0; rights = NoAccess })

-- the region at this place has the page
abbrev pub HasPage : List Region → ℕ → ℕ → Type 0
HasPage regions page place = (place < length regions) × ((region_in regions place).first ≤ page) × (page < (region_in regions place).end)

-- the region at this place has a page, and ends at the page or before it
abbrev pub EndsBelow : List Region → ℕ → ℕ → Type 0
EndsBelow regions page place =
    (place < length regions) × ((region_in regions place).first < (region_in regions place).end) × ((region_in regions place).end ≤ page)

-- a step from a page of a range goes on, and not behind its end
abbrev pub GoesOn : ℕ → ℕ → ℕ → Type 0
GoesOn at end next = (at < next) × (next ≤ end)
