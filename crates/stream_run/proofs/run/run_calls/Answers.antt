use Rattle.std.proofs.Common.{None, map, ◌∙◌}
use Rattle.line_source.specs.Lines.{seen}
use Rattle.stream_run.specs.Streams.{course, ports}
use Rattle.stream_run.proofs.ReadText.{opens_of}
use Rattle.stream_run.proofs.WholeStreams.{RanSome-front, RanSome-whole}
use Rattle.stream_run.proofs.run.run_calls.Goals as goal

pub finish-requires-after_bounds : goal.finish-requires-after_bounds
finish-requires-after_bounds g c κs within =
    let can = c.requires.can in
    let end = c.make_calls.ensures.ended None can.0 can.1 tt in
    record {
      script = c.args.opening.now.trace;
      stores = can.0;
      calls = end.calls;
      history = end.history;
      after = end.after_calls;
    }

pub stop-requires-after_bounds : goal.stop-requires-after_bounds
stop-requires-after_bounds g c κs within =
    let can = c.requires.can in
    let end = c.make_calls.ensures.ended None can.0 can.1 tt in
    record {
      script = c.args.opening.now.trace;
      stores = can.0;
      calls = end.calls;
      history = end.history;
      after = end.after_calls;
    }

pub returns-in-Done : goal.returns-in-Done
returns-in-Done g c = λ left stores after opens.
    let script = c.args.opening.now.trace in
    let end = rw c.every.ensures at c.in-Done.ensures.ended left stores after opens in
    let whole = c.finish.ensures c.args.report (course script stores end.calls end.history end.told) (c.make_calls.ensures.asked ∙ c.requires.asked)
    c.requires.admitted end.after_calls in
    RanSome-whole g.S.Store.lasts c.args.report script stores c.make_calls.new.stream
    (ports left (g.T.Source.faults c.args.source.now) (g.K.Sink.taken c.args.sink.now) (g.K.Sink.faults c.args.sink.now))
    (ports (g.T.Source.left c.make_calls.new.source) (g.T.Source.faults c.make_calls.new.source) (g.K.Sink.taken c.make_calls.new.sink)
    (g.K.Sink.faults c.make_calls.new.sink))
    (opens_of left (seen c.args.ahead.now (g.T.Source.left c.args.source.now)) script opens) c.requires.admitted end
    (map g.S.Store.seen c.finish.result.stores.items) (g.K.Sink.taken c.finish.new.sink) (g.K.Sink.faults c.finish.new.sink)
    c.finish.result.ending whole

pub returns-in_default : goal.returns-in_default
returns-in_default g c = λ left stores after opens.
    let script = c.args.opening.now.trace in
    let end = rw c.every.ensures at c.make_calls.ensures.ended left stores after opens in
    let run = c.stop.ensures script stores end.calls end.history end.after_calls in
    RanSome-front g.S.Store.lasts c.args.report script stores c.make_calls.new.stream
    (ports left (g.T.Source.faults c.args.source.now) (g.K.Sink.taken c.args.sink.now) (g.K.Sink.faults c.args.sink.now))
    (ports (g.T.Source.left c.make_calls.new.source) (g.T.Source.faults c.make_calls.new.source) (g.K.Sink.taken c.make_calls.new.sink)
    (g.K.Sink.faults c.make_calls.new.sink))
    (opens_of left (seen c.args.ahead.now (g.T.Source.left c.args.source.now)) script opens) c.requires.admitted
    c.make_calls.result end (map g.S.Store.seen c.stop.result.items) run c.in_default.not-Done
