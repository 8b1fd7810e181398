-- The regions of a space, in the order of their first pages, and what a call says of them.
use Rattle.std.specs.Prelude.{ℕ, ◌+◌, Bool, true, false, ◌&&◌, ◌||◌, not, nat_lt, nat_le, if◌then◌else◌, List, [], ◌∷◌, length, map, filter, find, Option, Some, None}
use Rattle.std.specs.List.{list_any}
use Rattle.pager_model.specs.declared.region.Region.{Region}
use Rattle.pager_model.specs.declared.region.Kind.{Kind}
use Rattle.pager_model.specs.declared.region.Kind.TheVariants.{Fixed, Growing, Wired}
use Rattle.pager_model.specs.declared.region.Rights.{Rights}
use Rattle.pager_model.specs.declared.region.Rights.TheVariants.{NoAccess}
use Rattle.pager_model.specs.declared.entry.Want.{Want}
use Rattle.pager_model.specs.declared.reply.Reply.{Reply}
use Rattle.pager_model.specs.declared.reply.Reply.TheVariants.{Done, Unmapped, Denied, Overlap, OutOfSpace, NotGrowing, RegionsFull}
use Rattle.pager_model.specs.Bounds.{space_pages}

-- the page is one of the length pages from first on
abbrev pub in_range : ℕ → ℕ → ℕ → Bool
in_range first len page = nat_le first page && nat_lt page (first + len)

-- the first page after a region
abbrev pub end_of : Region → ℕ
end_of r = r.first + r.length

abbrev pub has_page : ℕ → Region → Bool
has_page page r = in_range r.first r.length page

-- the region has one of the pages of the range
abbrev pub meets_range : ℕ → ℕ → Region → Bool
meets_range first len r = nat_lt r.first (first + len) && nat_lt first (end_of r)

-- the region that has the page, where one has it
abbrev pub region_at : List Region → ℕ → Option Region
region_at regions page = find (has_page page) regions

-- the rights of a page: those of its own, where a protect gave it any, or else its region's first ones
abbrev pub rights_by : Option Rights → Option Region → Rights
rights_by None None = NoAccess
rights_by None (Some r) = r.rights
rights_by (Some own) region = own

-- the first page of the next region above a page, or the space's end
abbrev pub next_start : List Region → ℕ → ℕ
next_start [] page = space_pages
next_start (r ∷ regions) page = if nat_lt page r.first then r.first else next_start regions page

-- the regions with one more, in its place by first page
abbrev pub with_region : Region → List Region → List Region
with_region new [] = new ∷ []
with_region new (r ∷ regions) = if nat_lt new.first r.first then new ∷ r ∷ regions else r ∷ with_region new regions

-- the regions without the one that has the page
abbrev pub without_region : ℕ → List Region → List Region
without_region page regions = filter (λ r. not (has_page page r)) regions

-- the region that has the page is longer by so many pages
abbrev pub grown_region : ℕ → ℕ → Region → Region
grown_region page by r = if has_page page r then record r { length = r.length + by } else r

abbrev pub grown_regions : ℕ → ℕ → List Region → List Region
grown_regions page by regions = map (grown_region page by) regions

-- a map is out of the space, or overlaps a region, or finds 64 regions; else it is done
abbrev pub map_reply : List Region → ℕ → ℕ → Reply
map_reply regions page len =
    if nat_lt space_pages (page + len) then OutOfSpace
    else (if list_any (meets_range page len) regions then Overlap
    else (if nat_le 64 (length regions) then RegionsFull else Done))

abbrev pub grows : Kind → Bool
grows Fixed = false
grows Growing = true
grows Wired = false

-- of the region that has the page
abbrev pub grow_reply_at : List Region → ℕ → Option Region → Reply
grow_reply_at regions by None = Unmapped
grow_reply_at regions by (Some r) =
    if not (grows r.kind) then NotGrowing
    else (if nat_lt space_pages (end_of r + by) then OutOfSpace
    else (if list_any (meets_range (end_of r) by) regions then Overlap else Done))

-- a growth finds no region, or one that doesn't grow, or is out of the space, or overlaps the next region; else it is done
abbrev pub grow_reply : List Region → ℕ → ℕ → Reply
grow_reply regions page by = grow_reply_at regions by (region_at regions page)

abbrev pub unmap_reply_at : Option Region → Reply
unmap_reply_at None = Unmapped
unmap_reply_at (Some r) = Done

abbrev pub unmap_reply : List Region → ℕ → Reply
unmap_reply regions page = unmap_reply_at (region_at regions page)

-- a range lies in one region
abbrev pub range_in : ℕ → ℕ → Option Region → Bool
range_in page len None = false
range_in page len (Some r) = nat_le (page + len) (end_of r)

abbrev pub is_wired_kind : Kind → Bool
is_wired_kind Fixed = false
is_wired_kind Growing = false
is_wired_kind Wired = true

-- a region is wired by its kind, or because it is pinned
abbrev pub is_wired : Region → Bool
is_wired r = is_wired_kind r.kind || r.pinned

-- a range that lies in no single region is unmapped, and one in a wired region is denied
abbrev pub discard_reply_at : ℕ → ℕ → Option Region → Reply
discard_reply_at page len None = Unmapped
discard_reply_at page len (Some r) = if nat_le (page + len) (end_of r) then (if is_wired r then Denied else Done) else Unmapped

abbrev pub discard_reply : List Region → ℕ → ℕ → Reply
discard_reply regions page len = discard_reply_at page len (region_at regions page)

-- every region may be wired, and one that is wired by its kind can't be unwired
abbrev pub wire_reply_at : Option Region → Reply
wire_reply_at None = Unmapped
wire_reply_at (Some r) = Done

abbrev pub wire_reply : List Region → ℕ → Reply
wire_reply regions page = wire_reply_at (region_at regions page)

abbrev pub unwire_reply_at : Option Region → Reply
unwire_reply_at None = Unmapped
unwire_reply_at (Some r) = if is_wired_kind r.kind then Denied else Done

abbrev pub unwire_reply : List Region → ℕ → Reply
unwire_reply regions page = unwire_reply_at (region_at regions page)

-- the region that has the page is pinned, or is no longer
abbrev pub pinned_region : ℕ → Bool → Region → Region
pinned_region page pinned r = if has_page page r then record r { pinned = pinned } else r

abbrev pub pinned_regions : ℕ → Bool → List Region → List Region
pinned_regions page pinned regions = map (pinned_region page pinned) regions

-- how far a reservation in a region may reach
abbrev pub want_end : Kind → Region → ℕ → ℕ
want_end Fixed r next = end_of r
want_end Growing r next = next
want_end Wired r next = end_of r

abbrev pub want_in : List Region → ℕ → Region → Want
want_in regions page r = record { low = r.first; high = want_end r.kind r (next_start regions page); cap = r.length; wired = is_wired r }

abbrev pub wanted_at : List Region → ℕ → Option Region → Option Want
wanted_at regions page None = None
wanted_at regions page (Some r) = Some (want_in regions page r)

-- where a reservation for the page may lie: within a fixed or wired region, and up to the next region round a growing
-- one; with no more pages than the region has now
abbrev pub wanted : List Region → ℕ → Option Want
wanted regions page = wanted_at regions page (region_at regions page)
