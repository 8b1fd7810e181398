-- The flat memory of a space: base pages with words, copies and dirty flags. It knows no frames and no superpages, and
-- every answer is measured by it.
use Rattle.std.specs.Prelude.{ℕ, ◌/◌, ◌%◌, Bool, true, false, ◌&&◌, ◌==◌, if◌then◌else◌, List, [], Option, Some, None}
use Rattle.pager_model.specs.declared.call.Call.{Call}
use Rattle.pager_model.specs.declared.call.Call.TheVariants.{Map, Grow, Unmap, Protect, Load, Store, Sync, Evict, Discard, Wire, Unwire}
use Rattle.pager_model.specs.declared.region.Region.{Region}
use Rattle.pager_model.specs.declared.region.Rights.{Rights}
use Rattle.pager_model.specs.declared.region.Rights.TheVariants.{NoAccess, Read, Write}
use Rattle.pager_model.specs.declared.reply.Reply.{Reply}
use Rattle.pager_model.specs.declared.reply.Reply.TheVariants.{Done, Value, Clean, Written, Unmapped, Denied, Overlap, OutOfSpace, NotGrowing, RegionsFull, NoFrames, StoreFault, NoMemory, Busy}
use Rattle.pager_model.specs.Regions.{in_range, end_of, region_at, with_region, without_region, grown_regions, pinned_regions, map_reply, grow_reply, unmap_reply, discard_reply, wire_reply, unwire_reply, range_in, is_wired}

-- A page has 1,024 words of 8 bytes. Where no region has it, its words and its copy are zero and it isn't dirty, so the
-- pages of a new region are as they should be. Its rights are then of no meaning, and what an unmapped region left there stays: no
-- call looks at the rights of a page without a region, and a map or a growth sets those of its pages.
pub record Flat : Type 0 where
  pub regions : List Region
  -- of each page
  pub rights : ℕ → Rights
  -- of each page, each word
  pub words : ℕ → ℕ → ℕ
  -- of each page its copy's words, or nothing where the copy is unknown
  pub copies : ℕ → Option (ℕ → ℕ)
  pub dirty : ℕ → Bool

-- a space begins without regions
abbrev pub empty_space : Flat
empty_space = record { regions = []; rights = λ p. NoAccess; words = λ p i. 0; copies = λ p. Some (λ i. 0); dirty = λ p. false }

-- the page of an address, and the word's number in it
abbrev pub page_of : ℕ → ℕ
page_of address = address / 8192

abbrev pub word_of : ℕ → ℕ
word_of address = address % 8192 / 8

abbrev pub space_of_call : Call → ℕ
space_of_call (Map space page len kind rights) = space
space_of_call (Grow space page by) = space
space_of_call (Unmap space page) = space
space_of_call (Protect space page len rights) = space
space_of_call (Load space address) = space
space_of_call (Store space address word) = space
space_of_call (Sync space page) = space
space_of_call (Evict space page) = space
space_of_call (Discard space page len) = space
space_of_call (Wire space page) = space
space_of_call (Unwire space page) = space

abbrev pub can_read : Rights → Bool
can_read NoAccess = false
can_read Read = true
can_read Write = true

abbrev pub can_write : Rights → Bool
can_write NoAccess = false
can_write Read = false
can_write Write = true

-- an access to a page without a region is unmapped, and one without the right is denied
abbrev pub access_reply : Option Region → Bool → Reply → Reply
access_reply None allowed reply = Unmapped
access_reply (Some r) allowed reply = if allowed then reply else Denied

abbrev pub sync_reply : Option Region → Bool → Reply
sync_reply None dirty = Unmapped
sync_reply (Some r) dirty = if dirty then Written else Clean

abbrev pub evict_reply : Option Region → Bool → Reply
evict_reply None dirty = Unmapped
evict_reply (Some r) dirty = if is_wired r then Denied else (if dirty then Written else Clean)

-- what a call is answered
abbrev pub reply_of : Flat → Call → Reply
reply_of f (Map space page len kind rights) = map_reply f.regions page len
reply_of f (Grow space page by) = grow_reply f.regions page by
reply_of f (Unmap space page) = unmap_reply f.regions page
reply_of f (Protect space page len rights) = if range_in page len (region_at f.regions page) then Done else Unmapped
reply_of f (Load space address) =
    access_reply (region_at f.regions (page_of address)) (can_read (f.rights (page_of address)))
    (Value (f.words (page_of address) (word_of address)))
reply_of f (Store space address word) = access_reply (region_at f.regions (page_of address)) (can_write (f.rights (page_of address))) Done
reply_of f (Sync space page) = sync_reply (region_at f.regions page) (f.dirty page)
reply_of f (Evict space page) = evict_reply (region_at f.regions page) (f.dirty page)
reply_of f (Discard space page len) = discard_reply f.regions page len
reply_of f (Wire space page) = wire_reply f.regions page
reply_of f (Unwire space page) = unwire_reply f.regions page

-- the call is no refusal
abbrev pub is_lawful : Reply → Bool
is_lawful Done = true
is_lawful (Value word) = true
is_lawful Clean = true
is_lawful Written = true
is_lawful Unmapped = false
is_lawful Denied = false
is_lawful Overlap = false
is_lawful OutOfSpace = false
is_lawful NotGrowing = false
is_lawful RegionsFull = false
is_lawful (NoFrames wired claimed held) = false
is_lawful (StoreFault space count) = false
is_lawful NoMemory = false
is_lawful (Busy page) = false

-- The flat memory after a call, part by part. A refusal changes nothing.
abbrev pub regions_after : Flat → Call → List Region
regions_after f (Map space page len kind rights) =
    if is_lawful (map_reply f.regions page len) then with_region
    (record { first = page; length = len; kind = kind; rights = rights; pinned = false }) f.regions else f.regions
regions_after f (Grow space page by) = if is_lawful (grow_reply f.regions page by) then grown_regions page by f.regions else f.regions
regions_after f (Unmap space page) = without_region page f.regions
regions_after f (Wire space page) = pinned_regions page true f.regions
regions_after f (Unwire space page) = if is_lawful (unwire_reply f.regions page) then pinned_regions page false f.regions else f.regions
regions_after f call = f.regions

-- the new pages of a growth have their region's first rights
abbrev pub grown_rights : Flat → ℕ → Option Region → ℕ → Rights
grown_rights f by None p = f.rights p
grown_rights f by (Some r) p = if in_range (end_of r) by p then r.rights else f.rights p

abbrev pub rights_after : Flat → Call → ℕ → Rights
rights_after f (Map space page len kind rights) p = if is_lawful
    (map_reply f.regions page len) && in_range page len p then rights else f.rights p
rights_after f (Grow space page by) p = if is_lawful (grow_reply f.regions page by) then grown_rights f by
    (region_at f.regions page) p else f.rights p
rights_after f (Protect space page len rights) p = if range_in page len
    (region_at f.regions page) && in_range page len p then rights else f.rights p
rights_after f call p = f.rights p

-- the page goes with the region that is unmapped
abbrev pub goes : Option Region → ℕ → Bool
goes None p = false
goes (Some r) p = in_range r.first r.length p

-- the page is one of a range that is discarded
abbrev pub is_discarded : Flat → ℕ → ℕ → ℕ → Bool
is_discarded f page len p = is_lawful (discard_reply f.regions page len) && in_range page len p

abbrev pub words_after : Flat → Call → ℕ → ℕ → ℕ
words_after f (Store space address word) p i =
    if is_lawful (reply_of f (Store space address word)) && ((p == page_of address) && (i == word_of address)) then word else f.words p i
words_after f (Unmap space page) p i = if goes (region_at f.regions page) p then 0 else f.words p i
words_after f (Discard space page len) p i = if is_discarded f page len p then 0 else f.words p i
words_after f call p i = f.words p i

abbrev pub copies_after : Flat → Call → ℕ → Option (ℕ → ℕ)
copies_after f (Unmap space page) p = if goes (region_at f.regions page) p then Some (λ i. 0) else f.copies p
copies_after f (Sync space page) p = if is_lawful (reply_of f (Sync space page)) && (p == page) then Some (f.words p) else f.copies p
copies_after f (Evict space page) p = if is_lawful (reply_of f (Evict space page)) && (p == page) then Some (f.words p) else f.copies p
copies_after f (Discard space page len) p = if is_discarded f page len p then Some (λ i. 0) else f.copies p
copies_after f call p = f.copies p

abbrev pub dirty_after : Flat → Call → ℕ → Bool
dirty_after f (Store space address word) p = if is_lawful (reply_of f (Store space address word)) &&
    (p == page_of address) then true else f.dirty p
dirty_after f (Unmap space page) p = if goes (region_at f.regions page) p then false else f.dirty p
dirty_after f (Sync space page) p = if is_lawful (reply_of f (Sync space page)) && (p == page) then false else f.dirty p
dirty_after f (Evict space page) p = if is_lawful (reply_of f (Evict space page)) && (p == page) then false else f.dirty p
dirty_after f (Discard space page len) p = if is_discarded f page len p then false else f.dirty p
dirty_after f call p = f.dirty p

abbrev pub after_call : Flat → Call → Flat
after_call f call =
    record {
      regions = regions_after f call;
      rights = rights_after f call;
      words = words_after f call;
      copies = copies_after f call;
      dirty = dirty_after f call;
    }

-- a page is written to its copy
abbrev pub out : Flat → ℕ → Flat
out f page =
    record f { copies = λ p. if p == page then Some (f.words p) else f.copies p; dirty = λ p. if p == page then false else f.dirty p }

-- a failed write leaves the copy unknown
abbrev pub lost : Flat → ℕ → Flat
lost f page =
    record f { copies = λ p. if p == page then None else f.copies p }
