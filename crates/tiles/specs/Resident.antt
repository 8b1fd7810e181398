-- The resident pages of a space, by the entries that map them. Contracts look at them only through the mapping of a page, where it is resident.
use Rattle.std.specs.Prelude.{ℕ, ◌≡◌, ◌≢◌, ◌<◌, ◌≤◌, Bool, ◌==◌, if◌then◌else◌, option_map, Option, None}
use Rattle.extent_tree.specs.Rows.{Arena}
use Rattle.tiles.specs.TableEntries.{mapping_at as said_at, frames_in as room_in}
use Rattle.pager_model.specs.declared.region.Rights.{Rights}
use Rattle.pager_model.specs.declared.tile.Mapping.{Mapping}
use Rattle.pager_model.specs.Regions.{in_range}

abbrev pub Resident : Type 0
Resident = Arena Mapping

-- what is said of a page, where it is resident
abbrev pub mapping_at : Resident → ℕ → Option Mapping
mapping_at pages page = said_at pages page

-- how many frames there are
abbrev pub frames_in : Resident → ℕ
frames_in pages = room_in pages

-- the frame of a page, where it is resident
abbrev pub frame_of_page : Resident → ℕ → Option ℕ
frame_of_page pages page = option_map (λ (m : Mapping). m.frame) (mapping_at pages page)

-- no page from one on and before an end is resident
abbrev pub NoneResident : (ℕ → Option Mapping) → ℕ → ℕ → Type 0
NoneResident pages from end = (p : ℕ) → from ≤ p → p < end → pages p ≡ None

-- the lowest resident page from a page on and before an end
pub record IsNextResident (pages : ℕ → Option Mapping) (from end page : ℕ) : Type 0 where
  pub from_on : from ≤ page
  pub before_end : page < end
  pub resident : pages page ≢ None
  pub lowest : NoneResident pages from page

-- the page has this mapping, or none, and every other page is as before
pub record Maps (page : ℕ) (given : Option Mapping) (old new : Resident) : Type 0 where
  pub frames : frames_in new ≡ frames_in old
  pub at : (p : ℕ) → mapping_at new p ≡ (if p == page then given else mapping_at old p)

abbrev pub with_rights : Rights → Mapping → Mapping
with_rights rights m = record m { rights = rights }

abbrev pub with_flag : Bool → Mapping → Mapping
with_flag dirty m = record m { dirty = dirty }

-- the resident pages of the range have these rights, and all else is as before
pub record Protects (first len : ℕ) (rights : Rights) (old new : Resident) : Type 0 where
  pub frames : frames_in new ≡ frames_in old
  pub at : (p : ℕ) → mapping_at new p ≡ (if in_range first len p then option_map (with_rights rights)
      (mapping_at old p) else mapping_at old p)
