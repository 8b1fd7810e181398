use Rattle.std.proofs.Common.{◌≡◌, [], Option, None, IfSome, Err, refl, ap, sym, subst, ◌∙◌, arith}
use Rattle.line_source.specs.Lines.{seen}
use Rattle.pager_model.specs.declared.call.Line.{Line as CallLine}
use Rattle.trace_reader.specs.declared.fault.TraceFault.TheVariants.{ReadFault}
use Rattle.trace_stream.specs.Streams.{GoesOn}
use Rattle.stream_run.specs.declared.run.Ending.TheVariants.{Stopped}
use Rattle.stream_run.specs.Streams.{TellsRead}
use Rattle.stream_run.proofs.MadeLines.{CallsEnd-part, Goes-more, IsNext-of, StandsAt-none, ok_err, one_call_more}
use Rattle.stream_run.proofs.ReadText.{reads_none, reads_stopped, reads_whole, tells_read}
use Rattle.stream_run.proofs.ToldCounts.{AreToldBy-of, next_some, wrote_none}
use Rattle.stream_run.proofs.calls.make_calls.Goals as goal

pub lines-init : goal.lines-init
lines-init g c = record {
  every = c.of-telling.ensures.every;
  goes = λ left stores after opens. record {
    calls = [];
    history = [];
    told = [];
    stands = StandsAt-none g.S.Store.lasts c.of-telling.result c.args.every c.args.opening.now.trace stores c.args.stream.now
        c.of-telling.ensures.every after c.requires.some c.of-telling.ensures.left;
    reads = reads_none left (seen c.args.ahead.now (g.T.Source.left c.args.source.now)) c.args.opening.now.trace opens;
    wrote = wrote_none (g.K.Sink.taken c.args.sink.now);
    no_read_fault = refl;
    no_write_fault = refl;
  };
  asked = refl;
}

pub make_line-requires-clause-can : goal.make_line-requires-clause-can
make_line-requires-clause-can g c κs within =
    let script = c.args.opening.now.trace in
    let can = c.requires.can in
    let goes = c.lines.invariant.goes None can.0 can.1 tt in
    record {
      script = script;
      stores = can.0;
      calls = goes.calls;
      history = goes.history;
      after = goes.stands.after;
      next = IsNext-of c.args.opening.now.head script goes.calls c.in-Ok-Some.field-0 c.in-Ok-Some.line c.calls.result c.requires.opening
          c.in-Ok-Some.field-0-is c.in-Ok-Some.ensures.line c.in-Ok-Some.ensures.few (c.calls.ensures ∙ goes.stands.after.at.calls_are);
    }

pub make_line-requires-clause-left : goal.make_line-requires-clause-left
make_line-requires-clause-left g c κs within =
    let can = c.requires.can in
    let goes = c.lines.invariant.goes None can.0 can.1 tt in
    next_some c.lines.telling.every _ _ c.lines.telling.left goes.stands.next

pub lines-smaller : goal.lines-smaller
lines-smaller g c =
    let script = c.args.opening.now.trace in
    let can = c.requires.can in
    let goes = c.lines.invariant.goes None can.0 can.1 tt in
    let next = IsNext-of c.args.opening.now.head script goes.calls c.in-Ok-Some.field-0 c.in-Ok-Some.line c.calls.result c.requires.opening
    c.in-Ok-Some.field-0-is c.in-Ok-Some.ensures.line c.in-Ok-Some.ensures.few (c.calls.ensures ∙ goes.stands.after.at.calls_are) in
    let more = one_call_more g.S.Store.lasts c.lines.telling c.make_line.new.telling script can.0 c.lines.stream c.make_line.new.stream
    c.in-Ok-Some.line _ _ goes next (g.K.Sink.taken c.make_line.new.sink) c.in_default.ensures.on in
    let few = next.few in
    let was = goes.stands.after.at.calls_are in
    omega (arith, more, few, was)

pub lines-preserved : goal.lines-preserved
lines-preserved g c = record {
  every = c.in_default.ensures.every ∙ c.lines.invariant.every;
  goes = λ left stores after opens.
      let script = c.args.opening.now.trace in
      let goes = c.lines.invariant.goes left stores after opens in
      let next = IsNext-of c.args.opening.now.head script goes.calls c.in-Ok-Some.field-0 c.in-Ok-Some.line c.calls.result c.requires.opening
      c.in-Ok-Some.field-0-is c.in-Ok-Some.ensures.line c.in-Ok-Some.ensures.few (c.calls.ensures ∙ goes.stands.after.at.calls_are) in
      Goes-more g.S.Store.lasts c.lines.telling c.make_line.new.telling script stores c.lines.stream c.make_line.new.stream c.in-Ok-Some.line _ _
      goes next (g.K.Sink.taken c.make_line.new.sink) c.in_default.ensures.on c.in-Ok-Some.field-0
      (seen c.next_call.new.ahead (g.T.Source.left c.next_call.new.source)) _ _
      c.in-Ok-Some.field-0-is c.in-Ok-Some.ensures.reads
      (c.in-Ok-Some.ensures.no_other_fault (ok_err c.in-Ok-Some.field-0 ReadFault)) c.in_default.ensures.unfailed;
  asked = c.make_line.ensures.asked ∙ c.lines.invariant.asked;
}

pub returns-in-Ok-None-clause-ended : goal.returns-in-Ok-None-clause-ended
returns-in-Ok-None-clause-ended g c = λ left stores after opens.
    let script = c.args.opening.now.trace in
    let goes = c.lines.invariant.goes left stores after opens in
    let at = goes.stands.after.at in
    let mid = seen c.lines.ahead (g.T.Source.left c.lines.source) in
    let left' = g.T.Source.left c.next_call.new.source in
    let then = seen c.next_call.new.ahead left' in
    let read = subst (λ (o : Option CallLine). IfSome mid (λ bytes. GoesOn bytes o then)) c.in-Ok-None.field-0-is c.in-Ok-None.ensures.reads in
    record {
      calls = goes.calls;
      history = goes.history;
      told = goes.told;
      after_calls = goes.stands.after;
      lasting = goes.stands.lasting;
      told_are = rw (sym c.lines.invariant.every)
          (AreToldBy-of _ script goes.calls goes.history c.lines.telling.every goes.told c.lines.telling.left goes.stands.next goes.stands.each);
      ends = (
        reads_whole left mid left' c.next_call.new.ahead script goes.calls at.opening at.lines at.few_calls goes.reads read,
        goes.wrote,
      );
      read_fault = c.in-Ok-None.ensures.no_other_fault (λ is. cc) ∙ goes.no_read_fault;
      write_fault = λ is. cc;
      no_write_fault = λ other. goes.no_write_fault;
    }

pub returns-in-Err-clause-ended : goal.returns-in-Err-clause-ended
returns-in-Err-clause-ended g c = λ left stores after opens.
    let script = c.args.opening.now.trace in
    let fault = c.in-Err.fault in
    let goes = c.lines.invariant.goes left stores after opens in
    let mid = seen c.lines.ahead (g.T.Source.left c.lines.source) in
    let left' = g.T.Source.left c.next_call.new.source in
    let ahead = c.next_call.new.ahead in
    let read = tells_read fault (g.T.Source.faults c.lines.source) (g.T.Source.faults c.next_call.new.source)
    (λ is. c.in-Err.ensures.fault (ap Err is)) (λ other. c.in-Err.ensures.no_other_fault (λ is. other (let e : fault ≡ ReadFault = cc in e))) in
    record {
      calls = goes.calls;
      history = goes.history;
      told = goes.told;
      after_calls = goes.stands.after;
      lasting = goes.stands.lasting;
      told_are = rw (sym c.lines.invariant.every)
          (AreToldBy-of _ script goes.calls goes.history c.lines.telling.every goes.told c.lines.telling.left goes.stands.next goes.stands.each);
      ends = (
        reads_stopped left mid left' ahead script goes.calls c.calls.result fault goes.reads (c.calls.ensures ∙ goes.stands.after.at.calls_are)
            c.in-Err.ensures.few_ahead c.in-Err.ensures.own_fault (λ is. c.in-Err.ensures.unread (ap Err is)) c.in-Err.ensures.kept c.in-Err.ensures.refused,
        c.in-Err.ensures.own_fault,
        goes.wrote,
      );
      read_fault = subst (λ n. TellsRead (Stopped fault) n (g.T.Source.faults c.next_call.new.source)) goes.no_read_fault read;
      write_fault = λ is. cc;
      no_write_fault = λ other. goes.no_write_fault;
    }

pub returns-in-Err-make_line-clause-ended : goal.returns-in-Err-make_line-clause-ended
returns-in-Err-make_line-clause-ended g c = λ left stores after opens.
    let script = c.args.opening.now.trace in
    let goes = c.lines.invariant.goes left stores after opens in
    let next = IsNext-of c.args.opening.now.head script goes.calls c.in-Ok-Some.field-0 c.in-Ok-Some.line c.calls.result c.requires.opening
    c.in-Ok-Some.field-0-is c.in-Ok-Some.ensures.line c.in-Ok-Some.ensures.few (c.calls.ensures ∙ goes.stands.after.at.calls_are) in
    CallsEnd-part g.S.Store.lasts c.lines.telling c.make_line.new.telling script stores c.lines.stream c.make_line.new.stream c.in-Ok-Some.line _ _
    goes next (g.K.Sink.taken c.make_line.new.sink) c.in-Err-make_line.ensures.part c.args.every c.in-Ok-Some.field-0 c.next_call.new.ahead
    (g.T.Source.left c.next_call.new.source) _ _ c.lines.invariant.every c.in-Ok-Some.field-0-is c.in-Ok-Some.ensures.reads
    c.in-Ok-Some.ensures.few_ahead
    (c.in-Ok-Some.ensures.no_other_fault (ok_err c.in-Ok-Some.field-0 ReadFault)) c.in-Err-make_line.ensures.rose
