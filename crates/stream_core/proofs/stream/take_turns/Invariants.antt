use Rattle.std.proofs.Common.{◌≡◌, List}
use Rattle.pager_model.specs.declared.call.Line.{Line}
use Rattle.pager_model.specs.declared.entry.Entry.{Entry}
use Rattle.pager_model.specs.Scripts.{Script}
use Rattle.pager_model.specs.Stored.{Stored}
use Rattle.stream_core.specs.Streaming.{IsAt, IsDue, TookTurns}
use Rattle.stream_core.specs.Tallies.{has_curves}
use Rattle.stream_core.proofs.stream.take_turns.Given as goal

abbrev pub invariant-loop : goal.invariant-loop
invariant-loop g l = record {
  took : (script : Script) (stores : List Stored) (calls : List Line) (h : List Entry) → IsAt script stores calls h l.fn.stream
      → IsDue script calls l.fn.stream.turns → TookTurns script stores calls h l.fn.stream.turns l.counter l.stream;
  asked : has_curves l.stream.tally ≡ has_curves l.fn.stream.tally;
}
