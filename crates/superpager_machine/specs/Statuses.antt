-- The statuses of the calls, which C knows by number.
use Rattle.std.specs.Prelude.{ℕ, Option, Some, None}
use Rattle.pager_model.specs.declared.call.Call.{Call}
use Rattle.pager_model.specs.declared.call.Line.{Line}
use Rattle.stream_core.specs.Streaming.{Streaming}
use Rattle.guarded_pager.specs.declared.refusal.Refusal.{Refusal}
use Rattle.guarded_pager.specs.declared.refusal.Refusal.TheVariants.{NoMemory, Range, Counted}
use Rattle.guarded_pager.specs.Guards.{call_refusal}

-- 0 where the call did what it does, and else why it did nothing
abbrev pub status_of : Option Refusal → ℕ
status_of None = 0
status_of (Some NoMemory) = 3
status_of (Some Range) = 4
status_of (Some Counted) = 5

abbrev pub line_of : ℕ → Call → Line
line_of processor call = record { processor = processor; call = call }

-- why a processor's call is refused, where it is: its numbers name no call, or one that is refused
abbrev pub line_refusal : Streaming → ℕ → Option Call → Option Refusal
line_refusal s processor None = Some Range
line_refusal s processor (Some call) = call_refusal s (line_of processor call)

-- the status of a processor's call: 1 where the pager is closed
abbrev pub call_status : Option Streaming → ℕ → Option Call → ℕ
call_status None processor call = 1
call_status (Some s) processor call = status_of (line_refusal s processor call)
