use Rattle.std.proofs.Common.{◌≡◌, ℕ, ◌-◌, List, [], Option, IfSome}
use Rattle.line_source.specs.Lines.{seen}
use Rattle.pager_model.specs.Stored.{Stored}
use Rattle.stream_core.specs.Streaming.{IsAfter}
use Rattle.stream_core.specs.Tallies.{has_curves}
use Rattle.trace_stream.specs.Streams.{OpensWith, most_stream_calls}
use Rattle.stream_run.specs.Steps.{Goes}
use Rattle.stream_run.specs.Streams.{ports}
use Rattle.stream_run.proofs.calls.make_calls.Given as goal

abbrev pub invariant-lines : goal.invariant-lines
invariant-lines g l = record {
  every : l.telling.every ≡ l.fn.every;
  goes : (left : Option (List ℕ)) (stores : List Stored) → IsAfter l.fn.opening.trace stores [] [] l.fn.stream
      → IfSome left (λ bytes. OpensWith bytes l.fn.opening.trace (seen l.fn.ahead (g.T.Source.left l.fn.source)))
      → Goes g.S.Store.lasts l.telling l.fn.opening.trace stores l.stream
      (ports left (g.T.Source.faults l.fn.source) (g.K.Sink.taken l.fn.sink) (g.K.Sink.faults l.fn.sink))
      (ports (seen l.ahead (g.T.Source.left l.source)) (g.T.Source.faults l.source) (g.K.Sink.taken l.sink) (g.K.Sink.faults l.sink));
  asked : has_curves l.stream.tally ≡ has_curves l.fn.stream.tally;
}

abbrev pub decreases-lines : goal.decreases-lines
decreases-lines g l = most_stream_calls - l.stream.calls
