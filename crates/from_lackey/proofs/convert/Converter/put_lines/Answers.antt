-- each step goes on from what was converted
use Rattle.std.proofs.Common.{◌<◌, ◌^◌, ◌-◌, ℕ, length, sym, subst, refl, ◌∙◌, arith, flat_map}
use Rattle.pager_model.specs.TraceText.{call_line}
use Rattle.report_text.specs.Writing.{outgoing}
use Rattle.from_lackey.specs.declared.stop.Stop.{Stop}
use Rattle.from_lackey.specs.declared.stop.Stop.TheVariants.{WriteFault}
use Rattle.from_lackey.specs.Converted.{Stopped, StopsReading, ports}
use Rattle.from_lackey.proofs.SoFar.{converted, so_far_more, so_far_none, stopped_long, stopped_reading, stopped_writing}
use Rattle.from_lackey.proofs.TakenLines.{err_is}
use Rattle.from_lackey.proofs.convert.Converter.put_lines.Goals as goal

pub loop-looks-init : goal.loop-looks-init
loop-looks-init g c = record {
  so_far = so_far_none (g.T.Source.left c.args.source.now)
      (outgoing (g.K.Sink.taken c.args.sink.now) (g.K.Sink.writes c.args.sink.now) (g.K.Sink.faults c.args.sink.now) c.args.room.now.bytes.items)
      c.new-log.result c.args.self.now c.new-log.ensures.long c.new-log.ensures.ahead c.requires.none;
  unfailed = refl;
  same = refl;
}

pub returns-clause-stopped : goal.returns-clause-stopped
returns-clause-stopped g c =
    stopped_long c.args.self.now.instructions c.loop-looks._looks (g.T.Source.left c.args.source.now) (g.T.Source.left c.loop-looks.source)
    (outgoing (g.K.Sink.taken c.args.sink.now) (g.K.Sink.writes c.args.sink.now) (g.K.Sink.faults c.args.sink.now) c.args.room.now.bytes.items)
    (outgoing (g.K.Sink.taken c.loop-looks.sink) (g.K.Sink.writes c.loop-looks.sink) (g.K.Sink.faults c.loop-looks.sink)
    c.loop-looks.room.bytes.items)
    c.loop-looks.log c.loop-looks.self (g.T.Source.faults c.args.source.now) (g.T.Source.faults c.loop-looks.source) c.loop-looks.invariant.so_far
    c.loop-looks.invariant.same c.loop-looks.invariant.unfailed c.loop-looks-test.false

pub returns-in_err-taken-clause-stopped : goal.returns-in_err-taken-clause-stopped
returns-in_err-taken-clause-stopped g c =
    let so = c.loop-looks.invariant.so_far in
    let few : length so.lines < 2 ^ 64 - 1 = omega (arith, so.few, c.loop-looks-test.true) in
    let reading = subst (λ (failed : ℕ). StopsReading c.take_next.new.self.memory.layout so.lines (g.T.Source.left c.args.source.now)
    (g.T.Source.left c.take_next.new.source) failed (g.T.Source.faults c.take_next.new.source) c.in_err-taken.field-0.0)
    c.loop-looks.invariant.unfailed
    (c.in_err-taken.ensures.stopped c.loop-looks._looks (g.T.Source.left c.args.source.now) so.lines so.passed (sym so.counted) few) in
    err_is (λ (stop : Stop). Stopped (flat_map call_line) (flat_map call_line) c.args.self.now.instructions
    (ports (g.T.Source.left c.args.source.now) (g.T.Source.faults c.args.source.now)
    (outgoing (g.K.Sink.taken c.args.sink.now) (g.K.Sink.writes c.args.sink.now) (g.K.Sink.faults c.args.sink.now) c.args.room.now.bytes.items))
    (ports (g.T.Source.left c.take_next.new.source) (g.T.Source.faults c.take_next.new.source)
    (outgoing (g.K.Sink.taken c.loop-looks.sink) (g.K.Sink.writes c.loop-looks.sink) (g.K.Sink.faults c.loop-looks.sink)
    c.loop-looks.room.bytes.items)) stop)
    c.from_residual.result c.in_err-taken.field-0.0 c.from_residual.ensures.1
    (stopped_reading c.args.self.now.instructions c.loop-looks._looks (g.T.Source.left c.args.source.now) (g.T.Source.left c.loop-looks.source)
    (g.T.Source.left c.take_next.new.source)
    (outgoing (g.K.Sink.taken c.args.sink.now) (g.K.Sink.writes c.args.sink.now) (g.K.Sink.faults c.args.sink.now) c.args.room.now.bytes.items)
    (outgoing (g.K.Sink.taken c.loop-looks.sink) (g.K.Sink.writes c.loop-looks.sink) (g.K.Sink.faults c.loop-looks.sink)
    c.loop-looks.room.bytes.items)
    c.loop-looks.log c.loop-looks.log c.loop-looks.self c.take_next.new.self so c.loop-looks.invariant.same c.take_next.ensures.keeps
    (g.T.Source.faults c.args.source.now) (g.T.Source.faults c.take_next.new.source) c.in_err-taken.field-0.0 c.in_err-taken.ensures.of_log reading)

pub returns-in_err-put_calls-clause-stopped : goal.returns-in_err-put_calls-clause-stopped
returns-in_err-put_calls-clause-stopped g c =
    let so = c.loop-looks.invariant.so_far in
    err_is (λ (stop : Stop). Stopped (flat_map call_line) (flat_map call_line) c.args.self.now.instructions
    (ports (g.T.Source.left c.args.source.now) (g.T.Source.faults c.args.source.now)
    (outgoing (g.K.Sink.taken c.args.sink.now) (g.K.Sink.writes c.args.sink.now) (g.K.Sink.faults c.args.sink.now) c.args.room.now.bytes.items))
    (ports (g.T.Source.left c.take_next.new.source) (g.T.Source.faults c.take_next.new.source)
    (outgoing (g.K.Sink.taken c.put_calls.new.sink) (g.K.Sink.writes c.put_calls.new.sink) (g.K.Sink.faults c.put_calls.new.sink)
    c.put_calls.new.room.bytes.items)) stop)
    c.from_residual-in_err-put_calls.result WriteFault c.from_residual-in_err-put_calls.ensures.1
    (stopped_writing c.args.self.now.instructions c.loop-looks._looks (g.T.Source.left c.args.source.now) (g.T.Source.left c.loop-looks.source)
    (g.T.Source.left c.take_next.new.source)
    (outgoing (g.K.Sink.taken c.args.sink.now) (g.K.Sink.writes c.args.sink.now) (g.K.Sink.faults c.args.sink.now) c.args.room.now.bytes.items)
    (outgoing (g.K.Sink.taken c.loop-looks.sink) (g.K.Sink.writes c.loop-looks.sink) (g.K.Sink.faults c.loop-looks.sink)
    c.loop-looks.room.bytes.items)
    c.loop-looks.log c.take_next.new.log c.loop-looks.self c.take_next.new.self so c.loop-looks.invariant.same c.take_next.ensures.keeps
    (outgoing (g.K.Sink.taken c.put_calls.new.sink) (g.K.Sink.writes c.put_calls.new.sink) (g.K.Sink.faults c.put_calls.new.sink)
    c.put_calls.new.room.bytes.items)
    c.in_ok-taken.taken (c.in_ok-taken.ensures.took c.loop-looks._looks (g.T.Source.left c.args.source.now) so.lines so.passed) c.loop-looks-test.true
    (g.T.Source.faults c.args.source.now) (g.T.Source.faults c.take_next.new.source)
    (rw c.as_slice.ensures.value at c.in_err-put_calls.ensures) (c.in_ok-taken.ensures.unfailed ∙ c.loop-looks.invariant.unfailed))

pub returns-in-All-clause-whole : goal.returns-in-All-clause-whole
returns-in-All-clause-whole g c =
    let so = c.loop-looks.invariant.so_far in
    converted c.args.self.now.instructions c.loop-looks._looks (g.T.Source.left c.args.source.now) (g.T.Source.left c.loop-looks.source)
    (g.T.Source.left c.take_next.new.source)
    (outgoing (g.K.Sink.taken c.args.sink.now) (g.K.Sink.writes c.args.sink.now) (g.K.Sink.faults c.args.sink.now) c.args.room.now.bytes.items)
    (outgoing (g.K.Sink.taken c.loop-looks.sink) (g.K.Sink.writes c.loop-looks.sink) (g.K.Sink.faults c.loop-looks.sink)
    c.loop-looks.room.bytes.items)
    c.loop-looks.log c.take_next.new.log c.loop-looks.self c.take_next.new.self so c.loop-looks.invariant.same c.take_next.ensures.keeps
    (outgoing (g.K.Sink.taken c.put_calls.new.sink) (g.K.Sink.writes c.put_calls.new.sink) (g.K.Sink.faults c.put_calls.new.sink)
    c.put_calls.new.room.bytes.items)
    c.in_ok-taken.taken (c.in_ok-taken.ensures.took c.loop-looks._looks (g.T.Source.left c.args.source.now) so.lines so.passed) c.loop-looks-test.true
    (g.T.Source.faults c.args.source.now) (g.T.Source.faults c.take_next.new.source) c.in-All.is
    (rw c.as_slice.ensures.value at c.in_ok-put_calls.ensures) (c.in_ok-taken.ensures.unfailed ∙ c.loop-looks.invariant.unfailed)

pub loop-looks-preserved : goal.loop-looks-preserved
loop-looks-preserved g c =
    let so = c.loop-looks.invariant.so_far in
    record {
      so_far = so_far_more c.args.self.now.instructions c.loop-looks._looks (g.T.Source.left c.args.source.now) (g.T.Source.left c.loop-looks.source)
          (g.T.Source.left c.take_next.new.source)
          (outgoing (g.K.Sink.taken c.args.sink.now) (g.K.Sink.writes c.args.sink.now) (g.K.Sink.faults c.args.sink.now) c.args.room.now.bytes.items)
          (outgoing (g.K.Sink.taken c.loop-looks.sink) (g.K.Sink.writes c.loop-looks.sink) (g.K.Sink.faults c.loop-looks.sink)
          c.loop-looks.room.bytes.items)
          c.loop-looks.log c.take_next.new.log c.loop-looks.self c.take_next.new.self so c.loop-looks.invariant.same c.take_next.ensures.keeps
          (outgoing (g.K.Sink.taken c.put_calls.new.sink) (g.K.Sink.writes c.put_calls.new.sink) (g.K.Sink.faults c.put_calls.new.sink)
          c.put_calls.new.room.bytes.items)
          c.in_ok-taken.taken (c.in_ok-taken.ensures.took c.loop-looks._looks (g.T.Source.left c.args.source.now) so.lines so.passed)
          c.loop-looks-test.true c.in-Part.is c.take_next.ensures.same (rw c.as_slice.ensures.value at c.in_ok-put_calls.ensures);
      unfailed = c.in_ok-taken.ensures.unfailed ∙ c.loop-looks.invariant.unfailed;
      same = c.take_next.ensures.same ∙ c.loop-looks.invariant.same;
    }
