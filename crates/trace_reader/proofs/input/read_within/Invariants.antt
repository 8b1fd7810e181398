use Rattle.std.proofs.Common.{◌≡◌, ◌+◌, ◌-◌, ◌≤◌, vec_len}
use Rattle.trace_reader.proofs.SourceBytes.{Took}
use Rattle.trace_reader.proofs.input.read_within.Given as goal

abbrev pub invariant-pieces : goal.invariant-pieces
invariant-pieces g l = record {
  took : Took (g.T.Source.left l.fn.source) (g.T.Source.left l.source) l.text.items;
  no_fault : g.T.Source.faults l.source ≡ g.T.Source.faults l.fn.source;
  reads_few : g.T.Source.reads l.source ≤ g.T.Source.reads l.fn.source + vec_len l.text;
  short : vec_len l.text ≤ l.most;
}

abbrev pub decreases-pieces : goal.decreases-pieces
decreases-pieces g l = l.most - vec_len l.text
