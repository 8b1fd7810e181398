-- What is known of an entry before the frames are asked: what its processor's order and its space say of it.
use Rattle.std.specs.Prelude.{ℕ, ◌≡◌, ◌+◌, ◌<◌, ◌≤◌, List, length, slice_index_or, Option, Some, None, is_some, if◌then◌else◌}
use Rattle.pager_laws.specs.Laid.{IsSound}
use Rattle.pager_model.specs.declared.call.Call.{Call}
use Rattle.pager_model.specs.declared.call.Call.TheVariants.{Evict}
use Rattle.pager_model.specs.declared.entry.Entry.{Entry}
use Rattle.pager_model.specs.declared.entry.Victim.{Victim}
use Rattle.pager_model.specs.declared.entry.What.{What}
use Rattle.pager_model.specs.declared.entry.What.TheVariants.{Answer, Take, Give, Claim, UseHeld, DropHeld, Got, Unclaim, Refused, Pin, Kept, Rest}
use Rattle.pager_model.specs.Agreement.{ClaimsOrHolds}
use Rattle.pager_model.specs.Bounds.{most_spaces, space_pages}
use Rattle.pager_model.specs.Frame.{Framed}
use Rattle.pager_model.specs.FrameStates.{FrameState, HasNothing, frame_of, held_by, named_space, used_at}
use Rattle.pager_model.specs.PreferredSize.{IsWanted}

-- the state is a sound one of so many frames and processors, as it is after every legal history
pub record IsReached (st : FrameState) : Type 0 where
  pub frames : ℕ
  pub processors : ℕ
  pub sound : IsSound frames processors st

-- the processor claims or holds this frame of some victim, which is of this space
pub record OwnsFrame (st : FrameState) (c frame : ℕ) (victim : Victim) : Type 0 where
  pub is : victim.frame ≡ frame
  pub owns : ClaimsOrHolds st c victim

-- an evict of a page that has a frame
abbrev pub IsReadyAnswer : FrameState → ℕ → Call → Type 0
IsReadyAnswer st space (Evict s page) = (space < most_spaces) × (page < space_pages) × ((frame : ℕ) × (frame_of st space page ≡ Some frame))
IsReadyAnswer st space call = ⊥

-- What the frames need not look at.
abbrev pub IsReadyFor : FrameState → ℕ → Option ℕ → What → Type 0
IsReadyFor st c space (Answer number call answered) = IsReadyAnswer st (named_space space) call
IsReadyFor st c space (Take page frame want) =
    (named_space space < most_spaces) × (frame_of st (named_space space) page ≡ None) × HasNothing st c × IsWanted want page
IsReadyFor st c space (Give page frame) = frame_of st (named_space space) page ≡ Some frame
IsReadyFor st c space (Claim victim page frame need) = (c < length st.held) × HasNothing st c
IsReadyFor st c space (UseHeld page frame want) =
    (named_space space < most_spaces) × (frame_of st (named_space space) page ≡ None) × ((h : ℕ) × (held_by st c ≡ Some h)) × IsWanted want page
IsReadyFor st c space (DropHeld frame) = held_by st c ≡ Some frame
IsReadyFor st c space (Got frame) = (victim : Victim) × OwnsFrame st c frame victim
IsReadyFor st c space (Unclaim frame) = (victim : Victim) × OwnsFrame st c frame victim × (named_space space ≡ victim.space)
IsReadyFor st c space (Refused wired claimed held) = HasNothing st c
IsReadyFor st c space (Pin first len wired) = (named_space space < most_spaces) × (first + len ≤ space_pages)
IsReadyFor st c space (Kept first len page frame) = (named_space space < most_spaces) × (first + len ≤ space_pages)
IsReadyFor st c space (Rest short) = HasNothing st c
IsReadyFor st c space what = ⊥

abbrev pub IsReady : FrameState → Entry → Type 0
IsReady st e = IsReadyFor st e.processor e.space e.what

-- the number of the frame that is there, where one is
abbrev pub number_in : Option Framed → Option ℕ
number_in None = None
number_in (Some frame) = Some frame.number

-- the frames that are used places lie at their numbers, and no others are there
pub record AreInHand (hands : List (Option Framed)) (st : FrameState) : Type 0 where
  pub known : length hands ≡ length st.free
  pub here : (f : ℕ) → f < length hands → number_in (slice_index_or hands f None) ≡ (if is_some (used_at st f) then Some f else None)
