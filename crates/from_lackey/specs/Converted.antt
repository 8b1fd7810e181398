-- What a log became, and what was written of it.
use Rattle.std.specs.Prelude.{ℕ, ◌≡◌, ◌+◌, ◌-◌, ◌/◌, ◌^◌, ◌≤◌, Bool, List, [], ◌∷◌, ◌++◌, length, flat_map, Option, Some, None, IfSome}
use Rattle.std.specs.List.{AllByRecursion}
use Rattle.io_core.specs.Faults.{one_more}
use Rattle.pager_model.specs.declared.call.Line.{Line}
use Rattle.pager_model.specs.Scripts.{Script}
use Rattle.pager_model.specs.SizeSets.{SizeSet}
use Rattle.pager_model.specs.TraceText.{IsLine, call_line, first_line}
use Rattle.report_text.specs.Writing.{Outgoing, Sent, SentPart}
use Rattle.lackey_layout.specs.Places.{AreTaken, AreWhole, HasNone}
use Rattle.lackey_lines.specs.Accesses.{told_access}
use Rattle.lackey_regions.specs.declared.refusal.Refusal.{Refusal}
use Rattle.lackey_regions.specs.declared.refusal.Refusal.TheVariants.{MorePieces, MoreRegions, NoMemory as NoRoom}
use Rattle.lackey_regions.specs.LineCalls.{AreAt, accesses}
use Rattle.lackey_regions.specs.Refusals.{IsPageOf}
use Rattle.from_lackey.specs.declared.stop.Stop.{Stop}
use Rattle.from_lackey.specs.declared.stop.Stop.TheVariants.{Usage, Line as AtLine, ReadFault, WriteFault, NoMemory, TooLong}
use Rattle.from_lackey.specs.LineWords.{log_words}
use Rattle.from_lackey.specs.Log.{BeginsWith, IsReadTo, lines_of}

-- The trace of so many frames and these page sizes, with these calls, of one processor and one space.
abbrev pub trace_of : ℕ → SizeSet → List Line → Script
trace_of frames sizes calls = record { version = 3; frames = frames; processors = 1; spaces = 1; sizes = sizes; daemon = None; calls = calls }

-- its text up to the calls' end
abbrev pub text_so_far : ℕ → SizeSet → List Line → List ℕ
text_so_far frames sizes calls = first_line (trace_of frames sizes calls) ++ flat_map call_line calls

-- The calls that lines of a log became: each is one that a line of the trace may hold; and what they load and store are the words that the lines access,
-- all of them and in order, at the places that pieces of 4 MiB have.
pub record Became (instructions : Bool) (places : List (Option ℕ)) (lines : List (List ℕ)) (calls : List Line) : Type 0 where
  pub in_range : AllByRecursion (IsLine 3 1 1) calls
  pub at : AreAt places (flat_map (log_words instructions) lines) (accesses calls)

-- Where things stand: the bytes that are to come, where the source tells them, how many reads failed, and what goes out.
pub record Ports : Type 0 where
  pub left : Option (List ℕ)
  pub read_faults : ℕ
  pub out : Outgoing

abbrev pub ports : Option (List ℕ) → ℕ → Outgoing → Ports
ports left read_faults out = record { left = left; read_faults = read_faults; out = out }

-- the line becomes no calls: where it tells an access, a page of that is of a piece without a place, and each place has a piece
abbrev pub IsRefused : List (Option ℕ) → Refusal → List ℕ → Type 0
IsRefused places MorePieces line = AreTaken places × (page : ℕ) × HasNone places (page / 512) × IfSome (told_access line) (λ a. IsPageOf a page)
IsRefused places MoreRegions line = Unit {0}
IsRefused places NoRoom line = Unit {0}

-- the log goes on behind these lines with one that becomes no calls
abbrev pub GoesOnWithout : List (Option ℕ) → Refusal → List (List ℕ) → List ℕ → Type 0
GoesOnWithout places refusal lines bytes =
    (line : List ℕ) × (others : List (List ℕ)) × (lines_of bytes ≡ lines ++ line ∷ others) × IsRefused places refusal line

-- What was read where it stopped behind these lines: a read failed, once; or none did, and the next line becomes no calls. Beside the log are the bytes that the
-- source has left, and how many reads had failed and have now.
abbrev pub StopsReading : List (Option ℕ) → List (List ℕ) → (before left : Option (List ℕ)) → (failed faults : ℕ) → Stop → Type 0
StopsReading places lines before left failed faults ReadFault = (faults ≡ one_more failed) × IfSome before (IsReadTo lines left)
StopsReading places lines before left failed faults (AtLine number refusal) =
    (faults ≡ failed) × (number ≡ length lines + 1) × IfSome before (GoesOnWithout places refusal lines)
StopsReading places lines before left failed faults TooLong =
    (faults ≡ failed) × IfSome before (λ bytes. BeginsWith lines bytes × (2 ^ 64 - 1 ≤ length bytes))
StopsReading places lines before left failed faults WriteFault = (faults ≡ failed) × IfSome before (BeginsWith lines)
StopsReading places lines before left failed faults NoMemory = (faults ≡ failed) × IfSome before (BeginsWith lines)
StopsReading places lines before left failed faults Usage = ⊥

-- What went out where it stopped: a write failed, once, and a shorter beginning of the whole text went out; or none did, and all so far goes out.
abbrev pub StopsWriting : (so_far whole : List ℕ) → (before now : Ports) → Stop → Type 0
StopsWriting so_far whole before now WriteFault = SentPart before.out now.out whole
StopsWriting so_far whole before now stop = Sent before.out now.out so_far

-- It stopped behind lines that became calls. These have this text so far, and this whole one.
pub record Stopped (so_far whole : List Line → List ℕ) (instructions : Bool) (before now : Ports) (stop : Stop) : Type 0 where
  pub places : List (Option ℕ)
  pub are_whole : AreWhole places
  pub lines : List (List ℕ)
  pub calls : List Line
  pub became : Became instructions places lines calls
  pub reading : StopsReading places lines before.left now.left before.read_faults now.read_faults stop
  pub writing : StopsWriting (so_far calls) (whole calls) before now stop

-- All lines of the log became calls, whose text went out; the source has no more bytes, and no read and no write failed.
pub record Converted (whole : List Line → List ℕ) (instructions : Bool) (before now : Ports) (count : ℕ) : Type 0 where
  pub places : List (Option ℕ)
  pub are_whole : AreWhole places
  pub lines : List (List ℕ)
  pub calls : List Line
  pub became : Became instructions places lines calls
  pub all : IfSome before.left (λ bytes. (lines_of bytes ≡ lines) × (now.left ≡ Some []))
  pub read : now.read_faults ≡ before.read_faults
  pub sent : Sent before.out now.out (whole calls)
  pub counted : count ≡ length lines
