-- When a table of the uses of frames is right.
use Rattle.std.specs.Prelude.{ℕ, ◌≡◌, ◌≤◌, ◌&&◌, ◌==◌, if◌then◌else◌, Bool, List, length, map, slice_index_or, option_map, Option, Some, None}
use Rattle.std.specs.BTreeMap.{BTreeMap}
use Rattle.pager_model.specs.declared.call.Call.{Call}
use Rattle.pager_model.specs.declared.call.Call.TheVariants.{Evict}
use Rattle.pager_model.specs.declared.entry.Want.{Want}
use Rattle.pager_model.specs.declared.reservation.Used.{Used}
use Rattle.pager_model.specs.FrameStates.{FrameState, frame_of, held_by}
use Rattle.pager_model.specs.Regions.{in_range}
use Rattle.contiguity_plan.specs.declared.plan.PageOf.{PageOf}
use Rattle.contiguity_plan.specs.declared.table.Table.{Table}
use Rattle.contiguity_plan.specs.declared.table.Use.{Use}
use Rattle.contiguity_plan.specs.Places.{place_in}

-- what a table and the frames' state both note of a used frame
pub record Note : Type 0 where
  pub wired : Bool
  pub claim : Option ℕ

abbrev pub note_of : Use → Note
note_of u = record { wired = u.wired; claim = u.claim }

abbrev pub noted : Used → Note
noted u = record { wired = u.wired; claim = u.claim }

abbrev pub use_in : List (Option Use) → ℕ → Option Use
use_in uses frame = slice_index_or uses frame None

-- a page's first use of its frame, which nobody claims
abbrev pub use_for : PageOf → Want → Use
use_for page want = record { page = page; wired = want.wired; claim = None }

abbrev pub claim_of : Option Use → Option ℕ
claim_of None = None
claim_of (Some u) = u.claim

abbrev pub reclaimed : Option ℕ → Option Use → Option Use
reclaimed claim None = None
reclaimed claim (Some u) = Some (record u { claim = claim })

-- a use whose page is one of a range of a space is wired, or is no longer
abbrev pub pinned : ℕ → ℕ → ℕ → Bool → Option Use → Option Use
pinned space first len wired None = None
pinned space first len wired (Some u) =
    Some (if (u.page.space == space) && in_range first len u.page.page then record u { wired = wired } else u)

-- the page that an evict is of
abbrev pub evicted : Call → Option ℕ
evicted (Evict space page) = Some page
evicted call = None

-- The uses of the frames, the frames that processors hold and the frames of pages are those of the state.
pub record AreRight (st : FrameState) (uses : List (Option Use)) (held : List (Option ℕ)) (places : List (BTreeMap ℕ ℕ)) : Type 0 where
  pub notes : map (option_map note_of) uses ≡ map (option_map noted) st.used
  pub pages : (frame : ℕ) (u : Use) → use_in uses frame ≡ Some u → frame_of st u.page.space u.page.page ≡ Some frame
  pub places_are : (s p : ℕ) → place_in places s p ≡ frame_of st s p
  pub hands : (c : ℕ) → slice_index_or held c None ≡ held_by st c
  pub room : length st.held ≤ length held

abbrev pub IsRight : FrameState → Table → Type 0
IsRight st table = AreRight st table.uses.items table.held.items table.places.items
