-- The text of a trace, and which traces have one. Lines end with a line feed, and their words are apart by one space.
use Rattle.std.specs.Prelude.{ℕ, ◌≡◌, ◌%◌, ◌^◌, ◌<◌, ◌≤◌, ◌==◌, ◌⊎◌, Bool, if◌then◌else◌, List, [], ◌∷◌, ◌++◌, length, codes, decimal, flat_map, All, Option, Some, None}
use Rattle.std.specs.List.{join_with_byte}
use Rattle.pager_model.specs.declared.call.Call.{Call}
use Rattle.pager_model.specs.declared.call.Call.TheVariants.{Map, Grow, Unmap, Protect, Load, Store, Sync, Evict, Discard, Wire, Unwire}
use Rattle.pager_model.specs.declared.call.Line.{Line}
use Rattle.pager_model.specs.declared.trace.Daemon.{Daemon}
use Rattle.pager_model.specs.declared.region.Kind.{Kind}
use Rattle.pager_model.specs.declared.region.Kind.TheVariants.{Fixed, Growing, Wired}
use Rattle.pager_model.specs.declared.region.Rights.{Rights}
use Rattle.pager_model.specs.declared.region.Rights.TheVariants.{NoAccess, Read, Write}
use Rattle.pager_model.specs.Scripts.{Script}
use Rattle.pager_model.specs.SizeSets.{SizeSet, all_sizes}
use Rattle.pager_model.specs.Bounds.{most_calls, most_frames, space_bytes, space_pages, most_processors, most_spaces}

abbrev pub kind_word : Kind → List ℕ
kind_word Fixed = codes "fixed"
kind_word Growing = codes "growing"
kind_word Wired = codes "wired"

abbrev pub rights_word : Rights → List ℕ
rights_word NoAccess = codes "none"
rights_word Read = codes "read"
rights_word Write = codes "write"

-- the words of a call after its processor
abbrev pub call_words : Call → List (List ℕ)
call_words (Map space page len kind rights) =
    codes "map" ∷ decimal space ∷ decimal page ∷ decimal len ∷ kind_word kind ∷ rights_word rights ∷ []
call_words (Grow space page by) = codes "grow" ∷ decimal space ∷ decimal page ∷ decimal by ∷ []
call_words (Unmap space page) = codes "unmap" ∷ decimal space ∷ decimal page ∷ []
call_words (Protect space page len rights) =
    codes "protect" ∷ decimal space ∷ decimal page ∷ decimal len ∷ rights_word rights ∷ []
call_words (Load space address) = codes "load" ∷ decimal space ∷ decimal address ∷ []
call_words (Store space address word) = codes "store" ∷ decimal space ∷ decimal address ∷ decimal word ∷ []
call_words (Sync space page) = codes "sync" ∷ decimal space ∷ decimal page ∷ []
call_words (Evict space page) = codes "evict" ∷ decimal space ∷ decimal page ∷ []
call_words (Discard space page len) = codes "discard" ∷ decimal space ∷ decimal page ∷ decimal len ∷ []
call_words (Wire space page) = codes "wire" ∷ decimal space ∷ decimal page ∷ []
call_words (Unwire space page) = codes "unwire" ∷ decimal space ∷ decimal page ∷ []

-- a line of these words: one space (byte 32) between two, and a line feed (byte 10) at the end
abbrev pub line_of_words : List (List ℕ) → List ℕ
line_of_words words = join_with_byte 32 words ++ 10 ∷ []

abbrev pub line_words : Line → List (List ℕ)
line_words line = decimal line.processor ∷ call_words line.call

abbrev pub call_line : Line → List ℕ
call_line line = line_of_words (line_words line)

-- the digit of a size's level, where there is the size
abbrev pub level_digit : Bool → List ℕ → List ℕ
level_digit there digit = if there then digit else []

-- the word of page sizes: the digits of their levels, ascending
abbrev pub sizes_word : SizeSet → List ℕ
sizes_word z = codes "0" ++ level_digit z.one (codes "1") ++ level_digit z.two (codes "2") ++ level_digit z.three (codes "3")

-- the words of a first line of this version, for so many frames, processors and spaces and these page sizes, which version 1 doesn't name
abbrev pub first_words : (version frames processors spaces : ℕ) → SizeSet → List (List ℕ)
first_words version frames processors spaces z =
    codes "trace" ∷ decimal version ∷ decimal frames ∷ decimal processors ∷ decimal spaces ∷
    (if version == 1 then [] else sizes_word z ∷ [])

abbrev pub first_line : Script → List ℕ
first_line script = line_of_words (first_words script.version script.frames script.processors script.spaces script.sizes)

-- the words of a daemon's line
abbrev pub daemon_words : Daemon → List (List ℕ)
daemon_words d = codes "daemon" ∷ decimal d.low ∷ decimal d.turns ∷ []

-- the daemon's line, where there is one
abbrev pub daemon_line : Option Daemon → List ℕ
daemon_line None = []
daemon_line (Some d) = line_of_words (daemon_words d)

-- the whole text: the first line, the daemon's where there is one, a line for each call, and the line end
abbrev pub text_of : Script → List ℕ
text_of script = first_line script ++ daemon_line script.daemon ++ flat_map call_line script.calls ++ line_of_words (codes "end" ∷ [])

-- a call that a line may hold, where there are so many spaces: of one of them, at one of its 1,048,576 pages; a range has a page at
-- least and as many as a space at most, and may lie past the end; an address is that of a word
abbrev pub IsCall : ℕ → Call → Type 0
IsCall spaces (Map space page len kind rights) = (space < spaces) × (page < space_pages) × (1 ≤ len) × (len ≤ space_pages)
IsCall spaces (Grow space page by) = (space < spaces) × (page < space_pages) × (1 ≤ by) × (by ≤ space_pages)
IsCall spaces (Unmap space page) = (space < spaces) × (page < space_pages)
IsCall spaces (Protect space page len rights) = (space < spaces) × (page < space_pages) × (1 ≤ len) × (len ≤ space_pages)
IsCall spaces (Load space address) = (space < spaces) × (address % 8 ≡ 0) × (address < space_bytes)
IsCall spaces (Store space address word) = (space < spaces) × (address % 8 ≡ 0) × (address < space_bytes) × (word < 2 ^ 64)
IsCall spaces (Sync space page) = (space < spaces) × (page < space_pages)
IsCall spaces (Evict space page) = (space < spaces) × (page < space_pages)
IsCall spaces (Discard space page len) = (space < spaces) × (page < space_pages) × (1 ≤ len) × (len ≤ space_pages)
IsCall spaces (Wire space page) = (space < spaces) × (page < space_pages)
IsCall spaces (Unwire space page) = (space < spaces) × (page < space_pages)

-- the call has a line in a text of this version: some have one from version 3 on
abbrev pub HasLine : ℕ → Call → Type 0
HasLine version (Discard space page len) = 3 ≤ version
HasLine version (Wire space page) = 3 ≤ version
HasLine version (Unwire space page) = 3 ≤ version
HasLine version call = Unit {0}

-- a line that a trace of this version and of so many processors and spaces may hold
abbrev pub IsLine : ℕ → ℕ → ℕ → Line → Type 0
IsLine version processors spaces line = (line.processor < processors) × IsCall spaces line.call × HasLine version line.call

-- a daemon that a trace may have: a low mark from 1 to 64, and 1 to 4,096 turns
abbrev pub IsDaemon : Option Daemon → Type 0
IsDaemon None = Unit {0}
IsDaemon (Some d) = ((1 ≤ d.low) × (d.low ≤ 64)) × ((1 ≤ d.turns) × (d.turns ≤ 4096))

-- version 1 is of all four page sizes, and versions 2 and 3 of any
abbrev pub IsVersion : ℕ → SizeSet → Type 0
IsVersion version z = ((version ≡ 1) × (z ≡ all_sizes)) ⊎ ((version ≡ 2) ⊎ (version ≡ 3))

-- the traces that have a text: of version 1, 2 or 3, a multiple of 512 frames from 512 to 32,768, one to sixteen processors and spaces, maybe a daemon,
-- and at most 262,144 calls in their ranges, of those that the version has
pub record HasText (script : Script) : Type 0 where
  pub version_in : IsVersion script.version script.sizes
  pub frames_in : (512 ≤ script.frames) × (script.frames ≤ most_frames)
  pub frames_whole : script.frames % 512 ≡ 0
  pub processors_in : (1 ≤ script.processors) × (script.processors ≤ most_processors)
  pub spaces_in : (1 ≤ script.spaces) × (script.spaces ≤ most_spaces)
  pub daemon_in : IsDaemon script.daemon
  pub lines : All (IsLine script.version script.processors script.spaces) script.calls
  pub few : length script.calls ≤ most_calls

-- these bytes are the text of this trace
abbrev pub IsTextOf : List ℕ → Script → Type 0
IsTextOf bytes script = HasText script × (bytes ≡ text_of script)
