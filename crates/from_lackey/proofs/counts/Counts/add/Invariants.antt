-- the accesses of the calls so far were counted, and the lines stay
use Rattle.std.proofs.Common.{◌≡◌, ◌+◌, ◌^◌, ◌<◌, length, take}
use Rattle.lackey_regions.specs.LineCalls.{accesses}
use Rattle.from_lackey.proofs.counts.Counts.add.Given as goal

abbrev pub invariant-loop-line : goal.invariant-loop-line
invariant-loop-line l = record {
  accesses : l.fn.self.accesses + length (accesses (take l.line-index l.calls)) < 2 ^ 64 → l.self.accesses ≡ l.fn.self.accesses + length (accesses (take l.line-index l.calls));
  lines : l.self.lines ≡ l.fn.self.lines;
  skipped : l.self.skipped ≡ l.fn.self.skipped;
}
