-- What becomes of a space's store where the copy of a page is written, while the page stays as it is.
use Rattle.std.specs.Prelude.{ℕ, ◌≡◌, ◌≢◌, ◌≤◌, Bool, true, false, List, None, Some}
use Rattle.pager_model.specs.declared.reply.Reply.TheVariants.{NoMemory}
use Rattle.pager_model.specs.SpaceStates.{Rises}
use Rattle.pager_model.specs.Stored.{keeps_at, SameCopies, SetsCopy}
use Rattle.space_core.specs.declared.space.Begun.{Begun}
use Rattle.space_core.specs.declared.space.Begun.TheVariants.{Answered as HasAnswered, Failed as HasFailed}
use Rattle.space_core.specs.declared.space.OutFault.{OutFault}
use Rattle.space_core.specs.declared.space.OutFault.TheVariants.{Failed as OutFailed, NoMemory as OutNoMemory}
use Rattle.space_core.specs.Pages.{HasWords}
use Rattle.space_core.specs.Standing.{Kept, dirty_at}

-- the space with another's store, and the writes of it
abbrev pub with_store : Kept → Kept → Kept
with_store kept other =
    record kept { store = other.store; writes = other.writes }

-- the page's words are its copy, which was written
abbrev pub WroteWords : Kept → Kept → ℕ → Type 0
WroteWords old new page = (words : List ℕ) × HasWords old.table page words × SetsCopy page (Some words) old.store new.store

-- A dirty page's copy was written, and nothing was done for a clean one.
pub record Saves (old new : Kept) (page : ℕ) (written : Bool) : Type 0 where
  pub was : dirty_at old page ≡ written
  pub same : new ≡ with_store old new
  pub wrote : written ≡ true → WroteWords old new page
  pub left : written ≡ false → new ≡ old
  pub unfailed : new.store.faults ≡ old.store.faults

-- The write failed, and the page's copy is unknown.
pub record FailsToSave (old new : Kept) (page count : ℕ) : Type 0 where
  pub dirty : dirty_at old page ≡ true
  pub same : new ≡ with_store old new
  pub lost : SetsCopy page None old.store new.store
  pub rose : Rises old.store.faults count
  pub count_is : count ≡ new.store.faults
  pub never_falls : old.store.faults ≤ new.store.faults

-- There was no memory for the copy.
pub record LacksRoom (old new : Kept) (page : ℕ) : Type 0 where
  pub dirty : dirty_at old page ≡ true
  pub unkept : keeps_at old.store page ≡ false
  pub same : new ≡ with_store old new
  pub copies : SameCopies old.store new.store
  pub unfailed : new.store.faults ≡ old.store.faults

-- what a sync or an evict meets where the copy of its page was not written
abbrev pub unwritten_by : ℕ → OutFault → Begun
unwritten_by page (OutFailed count) = HasFailed page count
unwritten_by page OutNoMemory = HasAnswered (record { reply = NoMemory; hit = false; size = None })

-- a call was not answered at once for want of memory
abbrev pub HadMemory : Begun → Type 0
HadMemory (HasAnswered a) = a.reply ≢ NoMemory
HadMemory begun = Unit {0}
