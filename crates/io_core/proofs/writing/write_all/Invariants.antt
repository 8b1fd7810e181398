use Rattle.std.proofs.Common.{length, ◌-◌, ◌+◌, ◌≡◌, ◌≤◌, ◌++◌, take, Some, IfSome}
use Rattle.io_core.proofs.writing.write_all.Given as goal

abbrev pub invariant-loop-at : goal.invariant-loop-at
invariant-loop-at g l = record {
  in_range : l.at ≤ length l.bytes;
  taken : IfSome (g.K.Sink.taken l.initial.sink) (λ had. g.K.Sink.taken l.sink ≡ Some (had ++ take l.at l.bytes));
  few_writes : g.K.Sink.writes l.sink ≤ g.K.Sink.writes l.initial.sink + l.at;
  unfailed : g.K.Sink.faults l.sink ≡ g.K.Sink.faults l.initial.sink;
}

abbrev pub decreases-loop-at : goal.decreases-loop-at
decreases-loop-at g l = length l.bytes - l.at
