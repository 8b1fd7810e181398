-- What is noted of used frames.
use Rattle.std.specs.Prelude.{ℕ, ◌≡◌, Bool, List, slice_set, slice_index_or, Option, Some, None}
use Rattle.pager_model.specs.declared.reservation.Used.{Used}
use Rattle.pager_model.specs.FrameStates.{claim_in, with_claim, with_wired}

-- For each frame what is noted of it, where it is used; and how many processors there are.
pub record Noted : Type 0 where
  pub frames : List (Option Used)
  pub processors : ℕ

-- what is noted of a frame
abbrev pub note_of : Noted → ℕ → Option Used
note_of st frame = slice_index_or st.frames frame None

-- this is noted of a frame, and the other frames stay
abbrev pub with_note : Noted → ℕ → Option Used → Noted
with_note st frame note = record { frames = slice_set st.frames frame note; processors = st.processors }

-- the frame is claimed by this processor, or by none
abbrev pub with_claim_of : Noted → ℕ → Option ℕ → Noted
with_claim_of st frame claim = with_note st frame (with_claim claim (note_of st frame))

-- the frame is wired, or is no longer
abbrev pub with_wired_of : Noted → ℕ → Bool → Noted
with_wired_of st frame wired = with_note st frame (with_wired wired (note_of st frame))

-- the processor claims the frame
abbrev pub Claims : Noted → ℕ → ℕ → Type 0
Claims st processor frame = claim_in (note_of st frame) ≡ Some processor
