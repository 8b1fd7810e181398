use Rattle.std.proofs.Common.{◌≡◌, ◌+◌, ◌≤◌, ◌++◌, All, length, flat_map}
use Rattle.pager_model.specs.Bounds.{most_calls}
use Rattle.pager_model.specs.TraceText.{IsLine, call_line}
use Rattle.trace_lines.specs.Forms.{call_forms}
use Rattle.trace_reader.specs.Refusals.{calls_refusal, lines_of}
use Rattle.trace_reader.proofs.text.calls.Given as goal

abbrev pub invariant-lines : goal.invariant-lines
invariant-lines l = record {
  lines : All (IsLine l.head.version l.head.processors l.head.spaces) l.calls.items;
  few : length l.calls.items ≤ most_calls;
  parts : l.text ≡ flat_map call_line l.calls.items ++ l.rest;
  refusal : calls_refusal (call_forms l.head.version l.head.processors l.head.spaces) l.first 0 (lines_of l.text) ≡ calls_refusal
      (call_forms l.head.version l.head.processors l.head.spaces) (l.first + length l.calls.items) (length l.calls.items) (lines_of l.rest);
}

abbrev pub decreases-lines : goal.decreases-lines
decreases-lines l = length l.rest
