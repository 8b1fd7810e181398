-- the lines so far became calls, which were put
use Rattle.std.proofs.Common.{◌≡◌}
use Rattle.report_text.specs.Writing.{outgoing}
use Rattle.from_lackey.proofs.SoFar.{SoFar}
use Rattle.from_lackey.proofs.convert.Converter.put_lines.Given as goal

abbrev pub invariant-loop-looks : goal.invariant-loop-looks
invariant-loop-looks g l = record {
  so_far : SoFar l._looks (g.T.Source.left l.fn.source)
      (outgoing (g.K.Sink.taken l.fn.sink) (g.K.Sink.writes l.fn.sink) (g.K.Sink.faults l.fn.sink) l.fn.room.bytes.items)
      (outgoing (g.K.Sink.taken l.sink) (g.K.Sink.writes l.sink) (g.K.Sink.faults l.sink) l.room.bytes.items)
      l.log (g.T.Source.left l.source) l.self;
  unfailed : g.T.Source.faults l.source ≡ g.T.Source.faults l.fn.source;
  same : l.self.instructions ≡ l.fn.self.instructions;
}
