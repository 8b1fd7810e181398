-- Why a call is refused, where it is, and what is told where it isn't.
use Rattle.std.specs.Prelude.{ℕ, ◌%◌, Bool, ◌&&◌, ◌==◌, not, nat_le, nat_lt, if◌then◌else◌, List, [], length, Option, Some, None}
use Rattle.pager_model.specs.Bounds.{most_frames, most_processors, most_spaces, space_bytes, space_pages}
use Rattle.pager_model.specs.declared.call.Call.{Call}
use Rattle.pager_model.specs.declared.call.Call.TheVariants.{Map, Grow, Unmap, Protect, Load, Store, Sync, Evict, Discard, Wire, Unwire}
use Rattle.pager_model.specs.declared.call.Line.{Line}
use Rattle.pager_model.specs.declared.entry.Entry.{Entry}
use Rattle.pager_model.specs.Scripts.{Script}
use Rattle.pager_model.specs.Stored.{Stored}
use Rattle.store_core.specs.MemoryState.{stored_copies}
use Rattle.stream_core.specs.Streaming.{Streaming, most_calls_made}
use Rattle.live_pager.specs.declared.told.Told.{Told}
use Rattle.live_pager.specs.Live.{IsLive, IsTold}
use Rattle.guarded_pager.specs.declared.refusal.Refusal.{Refusal}
use Rattle.guarded_pager.specs.declared.refusal.Refusal.TheVariants.{Range, Counted}

-- What is tested.

-- the frames are a multiple of 512 from 512 to 32,768, and there are one to sixteen processors and spaces
abbrev pub is_setting : ℕ → ℕ → ℕ → Bool
is_setting frames processors spaces =
    (nat_le 512 frames && (nat_le frames most_frames && (frames % 512 == 0)))
    && ((nat_le 1 processors && nat_le processors most_processors) && (nat_le 1 spaces && nat_le spaces most_spaces))

-- there are the space and the page
abbrev pub is_page : ℕ → ℕ → ℕ → Bool
is_page spaces space page = nat_lt space spaces && nat_lt page space_pages

-- there are the space and the page, and the length is that of a range
abbrev pub is_range : ℕ → ℕ → ℕ → ℕ → Bool
is_range spaces space page len = is_page spaces space page && (nat_le 1 len && nat_le len space_pages)

-- there is the space, and a word is at the address
abbrev pub is_word : ℕ → ℕ → ℕ → Bool
is_word spaces space address = nat_lt space spaces && ((address % 8 == 0) && nat_lt address space_bytes)

-- a call's numbers are in their bounds, where there are so many spaces
abbrev pub is_call : ℕ → Call → Bool
is_call spaces (Map space page len kind rights) = is_range spaces space page len
is_call spaces (Grow space page by) = is_range spaces space page by
is_call spaces (Unmap space page) = is_page spaces space page
is_call spaces (Protect space page len rights) = is_range spaces space page len
is_call spaces (Load space address) = is_word spaces space address
is_call spaces (Store space address word) = is_word spaces space address
is_call spaces (Sync space page) = is_page spaces space page
is_call spaces (Evict space page) = is_page spaces space page
is_call spaces (Discard space page len) = is_range spaces space page len
is_call spaces (Wire space page) = is_page spaces space page
is_call spaces (Unwire space page) = is_page spaces space page

-- there is the processor too
abbrev pub is_line : Streaming → Line → Bool
is_line s line = nat_lt line.processor s.processors && is_call (length s.spaces) line.call

-- why a call is refused, where it is: of its causes the first one that holds
abbrev pub call_refusal : Streaming → Line → Option Refusal
call_refusal s line =
    if not (is_line s line) then Some Range else (
    if nat_le most_calls_made s.calls then Some Counted else None)

-- What is told.

-- a store in memory that never fails and has no copy yet: all words are zero
abbrev pub zero_store : Stored
zero_store = stored_copies [] 0

-- whatever calls it stood after, it stands after this one too, and what is told is of this one
abbrev pub Tells : Streaming → Line → Told → Streaming → Type 0
Tells s line told s' = (script : Script) (stores : List Stored) (calls : List Line) (h : List Entry) → IsLive script stores calls h s
    → IsTold script stores calls line h told s'
