-- What every list of entries that the frames allow keeps of their state.
use Rattle.std.proofs.Common.{◌≡◌, ℕ, List, [], ◌∷◌, length, fold, Option, Some, None, option_map, refl, sym, ap}
use Rattle.std.proofs.lemmas.Option.{none-some}
use Rattle.pager_model.specs.declared.entry.Entry.{Entry}
use Rattle.pager_model.specs.declared.entry.Want.{Want}
use Rattle.pager_model.specs.FrameStates.{FrameState, IsFull, start_frames, layout_of, frame_of, taking, take_frame, frames_after}
use Rattle.pager_model.specs.Layouts.{Placing, placing}
use Rattle.pager_model.specs.Legal.{frames_state}
use Rattle.pager_model.specs.Settings.{Given, mark_of}
use Rattle.pager_laws.specs.Allowed.{AreAllowed, AreFrameEntries}
use Rattle.pager_laws.specs.Laid.{IsSound}
use Rattle.pager_laws.proofs.LayoutPlacing.{full-placing, placing-full}
use Rattle.pager_laws.proofs.StateSoundness.{IsSound-moved}
use Rattle.pager_laws.proofs.StartStates.{IsSound-start}

-- entries that the frames allow lead from a sound state to a sound one
IsSound-from : (g : Given) (st : FrameState) (entries : List Entry) → IsSound g.frames (length g.marks) st → AreAllowed g st entries
    → IsSound g.frames (length g.marks) (fold frames_after st entries)
IsSound-from g st [] sound allowed = sound
IsSound-from g st (e ∷ es) sound allowed =
    IsSound-from g (frames_after st e) es (IsSound-moved g.frames (length g.marks) st
    (mark_of g e.processor) e.processor e.space e.what sound allowed.0 allowed.1) allowed.2

pub IsSound-allowed : (g : Given) (entries : List Entry) → AreFrameEntries g entries
    → IsSound g.frames (length g.marks) (frames_state g entries)
IsSound-allowed g entries allowed = IsSound-from g (start_frames g.sizes g.frames (length g.marks)) entries
    (IsSound-start g.sizes g.frames (length g.marks)) allowed

-- where nothing is taken there was no place
none-placing : (st : FrameState) (want : Want) (o : Option Placing) → option_map (taking st want) o ≡ None → o ≡ None
none-placing st want None none = refl
none-placing st want (Some place) none = absurd (none-some (taking st want place) (sym none))

-- after entries that the frames allow, a page without a frame has none to take exactly where the frames are full
pub full-take_frame : (g : Given) (entries : List Entry) → AreFrameEntries g entries → (space page : ℕ) (want : Want)
    → frame_of (frames_state g entries) space page ≡ None → take_frame (frames_state g entries) space page want ≡ None
    → IsFull (frames_state g entries)
full-take_frame g entries allowed space page want none fails =
    let st = frames_state g entries in
    full-placing (layout_of st) st.entries space page want (IsSound-allowed g entries allowed).laid none
    (none-placing st want (placing st.entries space page want (layout_of st)) fails)

pub take_frame-full : (g : Given) (entries : List Entry) → AreFrameEntries g entries → (space page : ℕ) (want : Want)
    → frame_of (frames_state g entries) space page ≡ None → IsFull (frames_state g entries)
    → take_frame (frames_state g entries) space page want ≡ None
take_frame-full g entries allowed space page want none full =
    let st = frames_state g entries in
    ap (option_map (taking st want)) (placing-full (layout_of st) st.entries space page want
    (IsSound-allowed g entries allowed).laid none full)
