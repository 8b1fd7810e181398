-- What the fields of a space keep true.
use Rattle.std.specs.Prelude.{ℕ, ◌≡◌, ◌<◌, ◌≤◌, false, List, Option, Some, None}
use Rattle.std.specs.Option.{ForSome}
use Rattle.pager_model.specs.declared.page_range.PageRange.{PageRange}
use Rattle.pager_model.specs.declared.region.Region.{Region}
use Rattle.pager_model.specs.declared.tile.Mapping.{Mapping}
use Rattle.pager_model.specs.Regions.{region_at, rights_by}
use Rattle.region_table.specs.Table.{IsTable}
use Rattle.space_core.specs.Tables.{Table, mapping_in, frame_in, own_in, dirty_in}
use Rattle.pager_model.specs.Bounds.{space_pages}

-- None of the pages before the scan of the range that is being cleared is resident.
pub record IsClearing (table : Table) (scan : ℕ) (r : PageRange) : Type 0 where
  pub begun : r.first ≤ scan
  pub done : (p : ℕ) → r.first ≤ p → p < scan → frame_in table p ≡ None

-- what is said of a resident page is what its region and its rights are
pub record IsMapped (regions : List Region) (table : Table) (page : ℕ) (m : Mapping) : Type 0 where
  pub region : Region
  pub at : region_at regions page ≡ Some region
  pub first : m.region ≡ region.first
  pub rights : m.rights ≡ rights_by (own_in table page) (Some region)

pub record IsKept (regions : List Region) (table : Table) (pending : Option ℕ) (clearing : Option PageRange) (scan : ℕ) : Type 0 where
  pub ordered : IsTable regions
  -- only a region's pages have rights of their own, so a new region's pages begin with its first rights
  pub own : (p : ℕ) → region_at regions p ≡ None → own_in table p ≡ None
  pub mapped : (p : ℕ) (m : Mapping) → mapping_in table p ≡ Some m → IsMapped regions table p m
  pub pending_in : ForSome pending (λ p. p < space_pages)
  -- a page that was placed and not yet read in wasn't stored to
  pub pending_clean : ForSome pending (λ p. dirty_in table p ≡ false)
  -- no page is placed while a range is being cleared
  pub pending_alone : ForSome pending (λ p. clearing ≡ None)
  pub clearing_in : ForSome clearing (IsClearing table scan)
