-- The entries of a history, which parts they name, and the lists of the parts and of the processors.
use Rattle.std.specs.Prelude.{ℕ, ◌≡◌, Bool, true, false, ◌==◌, List, filter, Option, Some, None}
use Rattle.pager_model.specs.Options.{is_that}
use Rattle.pager_model.specs.declared.entry.Entry.{Entry}
use Rattle.pager_model.specs.declared.entry.Need.{Need}
use Rattle.pager_model.specs.declared.entry.What.{What}
use Rattle.pager_model.specs.declared.entry.What.TheVariants.{Answer, Out, Failed, Take, Give, Clear, Claim, UseHeld, DropHeld, Got, Unclaim, Refused, Pin, Kept, Rest}
use Rattle.pager_model.specs.Flat.{space_of_call}

-- the entry names space s
abbrev pub names_space : ℕ → Entry → Bool
names_space s e = is_that s e.space

-- the entry names the frames
abbrev pub names_frames : Entry → Bool
names_frames e = e.frames

-- the entry is of processor c
abbrev pub is_of : ℕ → Entry → Bool
is_of c e = e.processor == c

-- the part of a history that is space s's: the entries that name it, in order
abbrev pub space_part : ℕ → List Entry → List Entry
space_part s history = filter (names_space s) history

-- the frames' part of a history
abbrev pub frames_part : List Entry → List Entry
frames_part history = filter names_frames history

-- a processor's entries
abbrev pub entries_of : ℕ → List Entry → List Entry
entries_of c history = filter (is_of c) history

-- an entry names some space and not the frames
abbrev pub OnSpace : Option ℕ → Bool → Type 0
OnSpace space frames = ((s : ℕ) × (space ≡ Some s)) × (frames ≡ false)

-- some space and the frames
abbrev pub OnBoth : Option ℕ → Bool → Type 0
OnBoth space frames = ((s : ℕ) × (space ≡ Some s)) × (frames ≡ true)

-- the frames alone
abbrev pub OnFrames : Option ℕ → Bool → Type 0
OnFrames space frames = (space ≡ None) × (frames ≡ true)

-- a claim names the space of the call that needs a frame, where there is one
abbrev pub ClaimIsOn : Option Need → Option ℕ → Bool → Type 0
ClaimIsOn None space frames = OnFrames space frames
ClaimIsOn (Some need) space frames = OnBoth space frames

-- Which parts an entry names. An answer is on its call's space; whether it names the frames too is the space's rule.
abbrev pub IsOn : Option ℕ → Bool → What → Type 0
IsOn space frames (Answer number call answered) = space ≡ Some (space_of_call call)
IsOn space frames (Out page written) = OnSpace space frames
IsOn space frames (Failed page writing count) = OnSpace space frames
IsOn space frames (Take page frame want) = OnBoth space frames
IsOn space frames (Give page frame) = OnBoth space frames
IsOn space frames (Clear first len) = OnBoth space frames
IsOn space frames (Claim victim page frame need) = ClaimIsOn need space frames
IsOn space frames (UseHeld page frame want) = OnBoth space frames
IsOn space frames (DropHeld frame) = OnFrames space frames
IsOn space frames (Got frame) = OnFrames space frames
IsOn space frames (Unclaim frame) = OnBoth space frames
IsOn space frames (Refused wired claimed held) = OnFrames space frames
IsOn space frames (Pin first len wired) = OnBoth space frames
IsOn space frames (Kept first len page frame) = OnBoth space frames
IsOn space frames (Rest short) = OnFrames space frames

abbrev pub NamesItsParts : Entry → Type 0
NamesItsParts e = IsOn e.space e.frames e.what
