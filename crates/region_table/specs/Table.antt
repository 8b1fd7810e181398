-- The regions that a space can have.
use Rattle.std.specs.Prelude.{ℕ, ◌≤◌, Bool, false, if◌then◌else◌, List, [], ◌∷◌, length}
use Rattle.pager_model.specs.declared.region.Region.{Region}
use Rattle.pager_model.specs.declared.region.Kind.{Kind}
use Rattle.pager_model.specs.declared.region.Rights.{Rights}
use Rattle.pager_model.specs.declared.reply.Reply.{Reply}
use Rattle.pager_model.specs.Regions.{end_of, wire_reply, unwire_reply}
use Rattle.pager_model.specs.Bounds.{space_pages}

-- one region behind another from a page on: each begins where the one before it ends or later, has a page at least, and
-- ends within the space
abbrev pub LieFrom : ℕ → List Region → Type 0
LieFrom page [] = page ≤ space_pages
LieFrom page (r ∷ regions) = (page ≤ r.first) × (1 ≤ r.length) × LieFrom (end_of r) regions

-- at most 64 regions in the order of their first pages, no two with a common page
pub record IsTable (regions : List Region) : Type 0 where
  pub in_order : LieFrom 0 regions
  pub at_most : length regions ≤ 64

-- the region that a map makes
abbrev pub region_of : ℕ → ℕ → Kind → Rights → Region
region_of page len kind rights = record { first = page; length = len; kind = kind; rights = rights; pinned = false }

-- what a wire of the region that has the page is answered, or an unwire
abbrev pub pin_reply : Bool → List Region → ℕ → Reply
pin_reply pinned regions page = if pinned then wire_reply regions page else unwire_reply regions page
