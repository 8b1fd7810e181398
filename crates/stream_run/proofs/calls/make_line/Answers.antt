use Rattle.std.proofs.Common.{[], ◌∷◌, ◌++◌}
use Rattle.stream_run.proofs.MadeLines.{WentOn-due, WentOn-not_due, WentPart-due, on_err, on_ok}
use Rattle.stream_run.proofs.calls.make_line.Goals as goal

pub returns-then-not-is_due-clause-on : goal.returns-then-not-is_due-clause-on
returns-then-not-is_due-clause-on g c = λ course had stands next wrote.
    let made = c.make.ensures.made course.script course.stores course.calls course.history stands.after next in
    WentOn-not_due g.S.Store.lasts c.args.telling.now c.is_due.new.self c.is_due.ensures.every course c.args.stream.now c.make.new.self c.args.line
    stands made had (g.K.Sink.taken c.args.sink.now) c.if-not-is_due.ensures.counts wrote

pub so_far_of-requires-after_bounds : goal.so_far_of-requires-after_bounds
so_far_of-requires-after_bounds g c κs within =
    let can = c.requires.can in
    let made = c.make.ensures.made can.script can.stores can.calls can.history can.after can.next in
    record {
      script = can.script;
      stores = can.stores;
      calls = can.calls ++ c.args.line ∷ [];
      history = can.history ++ made.piece;
      after = made.after;
    }

pub returns-clause-on : goal.returns-clause-on
returns-clause-on g c = on_ok c.write_so_far.result c.write_so_far.ensures.whole
    (λ writes course had stands next wrote.
    let made = c.make.ensures.made course.script course.stores course.calls course.history stands.after next in
    WentOn-due g.S.Store.lasts c.args.telling.now c.is_due.new.self c.is_due.ensures.every course c.args.stream.now c.make.new.self c.args.line
    stands made c.so_far_of.result
    (c.so_far_of.ensures course.script course.stores (course.calls ++ c.args.line ∷ []) (course.history ++ made.piece) made.after)
    c.if-not-is_due.ensures.counts
    had (g.K.Sink.taken c.args.sink.now) (g.K.Sink.taken c.write_so_far.new.sink) wrote writes)

pub returns-clause-part : goal.returns-clause-part
returns-clause-part g c = on_err c.write_so_far.result c.write_so_far.ensures.part
    (λ writes course had stands next wrote.
    let made = c.make.ensures.made course.script course.stores course.calls course.history stands.after next in
    WentPart-due g.S.Store.lasts c.args.telling.now c.is_due.new.self c.is_due.ensures.every course c.args.stream.now c.make.new.self c.args.line
    stands made c.so_far_of.result
    (c.so_far_of.ensures course.script course.stores (course.calls ++ c.args.line ∷ []) (course.history ++ made.piece) made.after)
    c.if-not-is_due.ensures.counts
    had (g.K.Sink.taken c.args.sink.now) (g.K.Sink.taken c.write_so_far.new.sink) wrote writes)
