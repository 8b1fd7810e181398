use Rattle.std.proofs.Common.{◌≡◌, ◌+◌, ◌*◌, ◌≤◌, ◌++◌, decimal, length, map, take}
use Rattle.report_text.specs.Lines.{spaced}
use Rattle.report_text.proofs.summary_lines.put_counts.Given as goal

abbrev pub invariant-loop-count : goal.invariant-loop-count
invariant-loop-count l = record {
  text : l.text.items ≡ (l.fn.text.items ++ l.name) ++ spaced (map decimal (take l.count-index l.counts));
  short : length l.text.items ≤ (length l.fn.text.items + 20) + 21 * l.count-index;
}
