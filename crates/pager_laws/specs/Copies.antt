-- What a failed write and an answer without service leave.
use Rattle.std.specs.Prelude.{ℕ, ◌≡◌, ◌≢◌, true, None}
use Rattle.pager_model.specs.declared.reply.Reply.{Reply}
use Rattle.pager_model.specs.declared.reply.Reply.TheVariants.{NoFrames, StoreFault, NoMemory, Busy}
use Rattle.pager_model.specs.SpaceStates.{SpaceState, IsResident}

-- The page's copy is unknown now, and nothing else of memory or of frames is changed: the page is dirty and resident still.
pub record LosesItsCopy (page : ℕ) (before after : SpaceState) : Type 0 where
  pub unknown : after.flat.copies page ≡ None
  pub other_copies : (p : ℕ) → p ≢ page → after.flat.copies p ≡ before.flat.copies p
  pub is_dirty : after.flat.dirty page ≡ true
  pub is_resident : IsResident after.base page
  pub same_words : after.flat.words ≡ before.flat.words
  pub same_dirty : after.flat.dirty ≡ before.flat.dirty
  pub same_regions : after.flat.regions ≡ before.flat.regions
  pub same_rights : after.flat.rights ≡ before.flat.rights
  pub same_frames : after.base ≡ before.base

-- the reply is for want of a frame or of memory, for a store's fault, or for a claimed frame
abbrev pub IsWithoutService : Reply → Type 0
IsWithoutService (NoFrames wired claimed held) = Unit {0}
IsWithoutService (StoreFault space count) = Unit {0}
IsWithoutService NoMemory = Unit {0}
IsWithoutService (Busy page) = Unit {0}
IsWithoutService reply = ⊥
