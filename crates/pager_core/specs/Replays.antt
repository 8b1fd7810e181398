-- What the whole run of a trace is.
use Rattle.std.specs.Prelude.{ℕ, ◌≡◌, ◌<◌, List, drop, slice_get, Some}
use Rattle.pager_model.specs.declared.entry.Numbered.{Numbered}
use Rattle.pager_model.specs.Agreement.{IsPartition, NothingHeld, Agrees}
use Rattle.pager_model.specs.Counts.{counts}
use Rattle.pager_model.specs.Headline.{AllAnswered, AllServed, IsNeverShort, KeepsRightly, PreemptsOldest, RefusesRightly}
use Rattle.pager_model.specs.Laws.{KeepsLawsAllAlong}
use Rattle.pager_model.specs.Legal.{IsLegal, frames_at, entries_in}
use Rattle.pager_model.specs.Scripts.{Script}
use Rattle.pager_model.specs.declared.summary.Summary.{Summary}
use Rattle.pager_model.specs.Showing.{Shows}
use Rattle.pager_model.specs.SpaceStates.{Rises}
use Rattle.pager_model.specs.Stores.{setting_over, StoresEnd}
use Rattle.pager_model.specs.Stored.{Stored}
use Rattle.pager_core.specs.Running.{IsNumbered}

-- no store of a space failed: where one fails, its count of faults rises
abbrev pub NoneFailed : ℕ → List Stored → List Stored → Type 0
NoneFailed spaces before after =
    (s : ℕ) (old new : Stored) → s < spaces → slice_get before s ≡ Some old → slice_get after s ≡ Some new → Rises old.faults new.faults → ⊥

-- What holds of the whole run of a trace over stores: its history is numbered, legal and shows the trace, and keeps the laws at each
-- place; each reservation that was preempted was its list's oldest, each access that was refused for want of a frame could have none, and
-- there is none while wired places and processors are no more than the frames; each wire that wasn't done was kept from it by a page whose
-- frame was claimed; each answer is the flat memory's, or says that there was no frame or no memory, or which page kept a wire from being
-- done, or that a store failed, and this only where a store of a space did; after it each frame is in one role, none is claimed or held, and
-- spaces and frames agree; and the store of each space that told zero copies at the start tells those of the flat memory, and every store that
-- no space uses is as it was.
pub record IsReplay (script : Script) (before : List Stored) (history : List Numbered) (after : List Stored) : Type 0 where
  pub numbered : IsNumbered history
  pub legal : IsLegal (setting_over script before) (entries_in history)
  pub shows : Shows script (entries_in history)
  pub laws : KeepsLawsAllAlong (setting_over script before) (entries_in history)
  pub oldest : PreemptsOldest (setting_over script before) (entries_in history)
  pub refusals : RefusesRightly (setting_over script before) (entries_in history)
  pub kept : KeepsRightly (setting_over script before) (entries_in history)
  pub never_short : IsNeverShort (setting_over script before) (entries_in history)
  pub answered : AllAnswered (setting_over script before) (entries_in history)
  pub served : NoneFailed script.spaces before after → AllServed (setting_over script before) (entries_in history)
  pub partition : IsPartition script.frames (frames_at (setting_over script before) (entries_in history))
  pub none_held : NothingHeld (frames_at (setting_over script before) (entries_in history))
  pub agrees : Agrees (setting_over script before) (entries_in history)
  pub stores : StoresEnd (setting_over script before) history after
  pub unused : drop script.spaces after ≡ drop script.spaces before

-- its counts
abbrev pub AreItsCounts : Script → List Stored → List Numbered → Summary → Type 0
AreItsCounts script before history summary = summary ≡ counts (setting_over script before) (entries_in history)
