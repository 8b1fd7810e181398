use Rattle.std.proofs.Common.{◌≡◌, ◌+◌, ◌*◌, ◌≤◌, ◌++◌, decimal, length, map, take}
use Rattle.report_text.specs.Lines.{spaced}
use Rattle.report_text.proofs.text.Text.add_counts.Given as goal

abbrev pub invariant-loop-count : goal.invariant-loop-count
invariant-loop-count l = record {
  text : l.self.items ≡ l.fn.self.items ++ spaced (map decimal (take l.count-index l.counts));
  short : length l.self.items ≤ length l.fn.self.items + 21 * l.count-index;
}
