-- What is followed of a space, and when it is what its list of entries leads to.
use Rattle.std.specs.Prelude.{ℕ, ◌≡◌, ◌≢◌, ◌<◌, Bool, true, false, List, Option, Some, None, is_some}
use Rattle.page_rights.specs.Rights.{RightsTree, rights_of}
use Rattle.pager_model.specs.declared.call.Call.{Call}
use Rattle.pager_model.specs.declared.entry.Entry.{Entry}
use Rattle.pager_model.specs.declared.entry.What.{What}
use Rattle.pager_model.specs.declared.entry.What.TheVariants.{Answer, Out, Take, Give, Clear, UseHeld}
use Rattle.pager_model.specs.declared.region.Region.{Region}
use Rattle.pager_model.specs.declared.region.Rights.{Rights}
use Rattle.pager_model.specs.declared.reply.Answered.{Answered}
use Rattle.pager_model.specs.declared.reply.Reply.{Reply}
use Rattle.pager_model.specs.declared.tile.Mapping.{Mapping}
use Rattle.pager_model.specs.Flat.{Flat, is_lawful}
use Rattle.pager_model.specs.Laws.{KeepsCopies}
use Rattle.pager_model.specs.Regions.{region_at, rights_by}
use Rattle.pager_model.specs.SpaceStates.{SpaceState, SpaceAllows}
use Rattle.pager_model.specs.Tiles.{mappings}
use Rattle.pager_model.specs.TraceText.{IsCall}
use Rattle.region_table.specs.Table.{IsTable}
use Rattle.tiles.specs.Resident.{Resident, Maps, mapping_at, frame_of_page, frames_in}

pub record Followed : Type 0 where
  pub regions : List Region
  -- the rights that a protect gave pages
  pub own : RightsTree
  -- the resident pages, and the tiles that they make
  pub pages : Resident

-- a page's rights: its own, or else its region's first
abbrev pub rights_at : Followed → ℕ → Rights
rights_at kept page = rights_by (rights_of kept.own page) (region_at kept.regions page)

-- only a page of a region has rights of its own
abbrev pub OwnInRegions : List Region → RightsTree → Type 0
OwnInRegions regions own = (page : ℕ) → region_at regions page ≡ None → rights_of own page ≡ None

-- the regions are those of a table, and only pages of theirs have rights of their own
pub record AreOwned (regions : List Region) (own : RightsTree) : Type 0 where
  pub ordered : IsTable regions
  pub owned : OwnInRegions regions own

-- What is followed is what a flat memory has, and the frames of its pages: the regions, the rights of their pages, and what is said of
-- each resident page.
pub record Keeps (kept : Followed) (flat : Flat) (frames : ℕ → Option ℕ) : Type 0 where
  pub regions : flat.regions ≡ kept.regions
  pub rights : (page : ℕ) → is_some (region_at kept.regions page) ≡ true → flat.rights page ≡ rights_at kept page
  pub base : (page : ℕ) → frames page ≡ frame_of_page kept.pages page
  pub pages : (page : ℕ) → mappings flat frames page ≡ mapping_at kept.pages page

-- so it is of a state of a space
abbrev pub Follows : Followed → SpaceState → Type 0
Follows kept st = Keeps kept st.flat st.base

-- what is said of one page is this, and all else is as before
pub record MapsOne (page : ℕ) (given : Option Mapping) (old new : Followed) : Type 0 where
  pub regions : new.regions ≡ old.regions
  pub own : new.own ≡ old.own
  pub maps : Maps page given old.pages new.pages

-- The next entry.

-- which page gets which frame with an entry
abbrev pub filled : What → Option (ℕ × ℕ)
filled (Take page frame want) = Some (page, frame)
filled (UseHeld page frame want) = Some (page, frame)
filled what = None

-- an entry that changes nothing that is followed
abbrev pub is_idle : What → Bool
is_idle (Answer number call answered) = false
is_idle (Out page written) = false
is_idle (Take page frame want) = false
is_idle (Give page frame) = false
is_idle (Clear first len) = false
is_idle (UseHeld page frame want) = false
is_idle what = true

-- the frame is one of so many, and no page of the space has it
pub record IsUnused (frames : ℕ) (st : SpaceState) (frame : ℕ) : Type 0 where
  pub known : frame < frames
  pub others : (page : ℕ) → st.base page ≢ Some frame

abbrev pub FillsUnused : ℕ → SpaceState → Option (ℕ × ℕ) → Type 0
FillsUnused frames st None = Unit {0}
FillsUnused frames st (Some fill) = IsUnused frames st (fill.1)

-- an answer is of a call that a line of a trace may hold
abbrev pub AnswersLine : What → Type 0
AnswersLine (Answer number call answered) = (spaces : ℕ) × IsCall spaces call
AnswersLine what = Unit {0}

-- What is known of a space of a legal history and the entry of the space that comes next: the space allows it, a dirty page is resident or was just
-- cleared, a frame that comes under a page is under no other, and a call is one of a trace.
pub record IsNext (kept : Followed) (st : SpaceState) (e : Entry) : Type 0 where
  pub follows : Follows kept st
  pub allowed : SpaceAllows st e
  pub copies : KeepsCopies st
  pub unused : FillsUnused (frames_in kept.pages) st (filled e.what)
  pub line : AnswersLine e.what

-- the entry answers the call with this reply
pub record AnswersBy (e : Entry) (call : Call) (reply : Reply) : Type 0 where
  pub number : ℕ
  pub answered : Answered
  pub is : e.what ≡ Answer number call answered
  pub reply_is : answered.reply ≡ reply

-- the entry answers the call, and lawfully
pub record Serves (e : Entry) (call : Call) : Type 0 where
  pub number : ℕ
  pub answered : Answered
  pub is : e.what ≡ Answer number call answered
  pub lawful : is_lawful answered.reply ≡ true
