-- Lists of entries that the frames allow, one after another.
use Rattle.std.specs.Prelude.{◌<◌, List, [], ◌∷◌, length}
use Rattle.pager_model.specs.declared.entry.Entry.{Entry}
use Rattle.pager_model.specs.FrameStates.{FrameState, start_frames, frames_after, FramesAllow}
use Rattle.pager_model.specs.Settings.{Given, mark_of}

-- each of the entries is of a known processor, and the frames allow it after the state and the entries before it
abbrev pub AreAllowed : Given → FrameState → List Entry → Type 0
AreAllowed g st [] = Unit {0}
AreAllowed g st (e ∷ es) =
    (e.processor < length g.marks) × FramesAllow st (mark_of g e.processor) e.processor e.space e.what × AreAllowed g (frames_after st e) es

-- the entries are allowed from the beginning on
abbrev pub AreFrameEntries : Given → List Entry → Type 0
AreFrameEntries g entries = AreAllowed g (start_frames g.sizes g.frames (length g.marks)) entries
