-- The text of a history of a trace, and which entries a line of it may say.
use Rattle.std.specs.Prelude.{ℕ, ◌≡◌, ◌^◌, ◌<◌, ◌≤◌, Bool, true, false, List, ◌∷◌, [], ◌++◌, All, codes, decimal, Option, Some, None}
use Rattle.std.specs.List.{slice_get}
use Rattle.run_history.specs.Kept.{placed_from}
use Rattle.pager_model.specs.declared.call.Call.{Call}
use Rattle.pager_model.specs.declared.entry.Entry.{Entry}
use Rattle.pager_model.specs.declared.entry.Need.{Need}
use Rattle.pager_model.specs.declared.entry.Numbered.{Numbered}
use Rattle.pager_model.specs.declared.entry.Want.{Want}
use Rattle.pager_model.specs.declared.entry.What.{What}
use Rattle.pager_model.specs.declared.entry.What.TheVariants.{Answer, Out, Failed, Take, Give, Clear, Claim, UseHeld, DropHeld, Got, Unclaim, Refused, Pin, Kept, Rest}
use Rattle.pager_model.specs.declared.reply.Reply.{Reply}
use Rattle.pager_model.specs.declared.reply.Reply.TheVariants.{Value, NoFrames, StoreFault, Busy}
use Rattle.pager_model.specs.Legal.{entries_in}
use Rattle.pager_model.specs.Scripts.{Script}
use Rattle.pager_model.specs.PrintedText.{history_text, part_word, what_words}
use Rattle.pager_model.specs.Showing.{actors, calls_of}
use Rattle.pager_model.specs.TraceText.{line_of_words}

-- numbers that fit their fields
abbrev pub IsSmall : ℕ → Type 0
IsSmall n = n < 2 ^ 32

abbrev pub IsLarge : ℕ → Type 0
IsLarge n = n < 2 ^ 64

-- the call of this number of a processor
abbrev pub call_at : Script → ℕ → ℕ → Option Call
call_at script c number = slice_get (calls_of c script.calls) number

abbrev pub FitsReply : Reply → Type 0
FitsReply (Value word) = IsLarge word
FitsReply (NoFrames wired claimed held) = IsSmall wired × IsSmall claimed × IsSmall held
FitsReply (StoreFault space count) = IsSmall space × IsLarge count
FitsReply (Busy page) = IsSmall page
FitsReply reply = Unit {0}

-- a size is one of the four, and no hit is told without one
abbrev pub FitsSize : Bool → Option ℕ → Type 0
FitsSize hit None = hit ≡ false
FitsSize hit (Some size) = size ≤ 3

abbrev pub FitsWant : Want → Type 0
FitsWant want = IsSmall want.low × IsSmall want.high × IsSmall want.cap

abbrev pub FitsNeed : Option Need → Type 0
FitsNeed None = Unit {0}
FitsNeed (Some need) = IsSmall need.page

-- an answer is of the trace's call of its number, and every number fits its field
abbrev pub FitsWhat : Script → ℕ → What → Type 0
FitsWhat script c (Answer number call answered) =
    (call_at script c number ≡ Some call) × FitsReply answered.reply × FitsSize answered.hit answered.size
FitsWhat script c (Out page written) = IsSmall page
FitsWhat script c (Failed page writing count) = IsSmall page × IsLarge count
FitsWhat script c (Take page frame want) = IsSmall page × IsSmall frame × FitsWant want
FitsWhat script c (Give page frame) = IsSmall page × IsSmall frame
FitsWhat script c (Clear first len) = IsSmall first × IsSmall len
FitsWhat script c (Claim victim page frame need) = IsSmall victim × IsSmall page × IsSmall frame × FitsNeed need
FitsWhat script c (UseHeld page frame want) = IsSmall page × IsSmall frame × FitsWant want
FitsWhat script c (DropHeld frame) = IsSmall frame
FitsWhat script c (Got frame) = IsSmall frame
FitsWhat script c (Unclaim frame) = IsSmall frame
FitsWhat script c (Refused wired claimed held) = IsSmall wired × IsSmall claimed × IsSmall held
FitsWhat script c (Pin first len wired) = IsSmall first × IsSmall len
FitsWhat script c (Kept first len page frame) = IsSmall first × IsSmall len × IsSmall page × IsSmall frame
FitsWhat script c (Rest short) = Unit {0}

-- a space of so many, or the frames
abbrev pub IsPart : ℕ → Option ℕ → Bool → Type 0
IsPart spaces None frames = frames ≡ true
IsPart spaces (Some space) frames = space < spaces

-- an entry that a line of a history of this trace may say
pub record IsEntryOf (script : Script) (e : Entry) : Type 0 where
  pub processor : e.processor < actors script
  pub part : IsPart script.spaces e.space e.frames
  pub what : FitsWhat script e.processor e.what

-- the words of an entry's line behind its number, and all of them
abbrev pub unnumbered_words : Entry → List (List ℕ)
unnumbered_words e = decimal e.processor ∷ part_word e.space e.frames ∷ what_words e.what

abbrev pub entry_words : ℕ → Entry → List (List ℕ)
entry_words n e = decimal n ∷ unnumbered_words e

-- a history that has a text: its entries are numbered from 0
pub record IsHistoryOf (script : Script) (history : List Numbered) : Type 0 where
  pub numbered : history ≡ placed_from 0 (entries_in history)
  pub entries : All (IsEntryOf script) (entries_in history)

-- its text: a line for each entry, and the line end
abbrev pub text_of_history : List Numbered → List ℕ
text_of_history history = history_text history ++ line_of_words (codes "end" ∷ [])

abbrev pub IsHistoryText : Script → List ℕ → List Numbered → Type 0
IsHistoryText script bytes history = IsHistoryOf script history × (bytes ≡ text_of_history history)
