use Rattle.std.proofs.Common.{◌≡◌, ◌+◌, Err, ap, drop, refl}
use Rattle.std.proofs.lemmas.Result.{err_from_is_err_and}
use Rattle.trace_reader.specs.declared.fault.TraceFault.TheVariants.{ReadFault}
use Rattle.trace_stream.proofs.Beginnings.{bad_first, behind_first, from_start, lawful_first, no_first, opens_with, same_fault, unopened_second}
use Rattle.trace_stream.proofs.NextCalls.{cuts}
use Rattle.trace_stream.proofs.NextLines.{is_short, no_feed_shown}
use Rattle.trace_stream.proofs.beginning.open.Goals as goal

pub returns-in_err-length-clause-refused : goal.returns-in_err-length-clause-refused
returns-in_err-length-clause-refused g c =
    let p = err_from_is_err_and c.from_residual.result c.from_residual.ensures.1 in
    rw (p.1, p.2) (from_start _ (g.T.Source.left c.args.source.now) c.args.ahead.now c.requires.none_read
    (no_first _ c.in_err-length.field-0.0 c.in_err-length.ensures.refused))

pub returns-in-Err-clause-refused : goal.returns-in-Err-clause-refused
returns-in-Err-clause-refused g c =
    let at = c.in_ok-length.ensures in
    let ahead = c.whole_line.new.ahead in
    let line = c.front.result.now in
    from_start _ (g.T.Source.left c.args.source.now) c.args.ahead.now c.requires.none_read
    (bad_first _ _ line c.in-Err.cause (is_short ahead line c.in_ok-length.length at.line c.front.ensures at.few_ahead) c.in-Err.ensures.err
    (cuts (g.T.Source.left c.args.source.now) (g.T.Source.left c.whole_line.new.source) c.args.ahead.now ahead line
    (drop (c.in_ok-length.length + 1) ahead) c.in_ok-length.length at.same at.line c.front.ensures refl))

pub returns-in_err-daemon-clause-refused : goal.returns-in_err-daemon-clause-refused
returns-in_err-daemon-clause-refused g c =
    let p = err_from_is_err_and c.from_residual-in_err-daemon.result c.from_residual-in_err-daemon.ensures.1 in
    let at = c.in_ok-length.ensures in
    let ahead = c.whole_line.new.ahead in
    let line = c.front.result.now in
    rw (p.1, p.2) (from_start _ (g.T.Source.left c.args.source.now) c.args.ahead.now c.requires.none_read
    (behind_first _ _ line c.in_err-daemon.field-0.0 (is_short ahead line c.in_ok-length.length at.line c.front.ensures at.few_ahead)
    (lawful_first c.in-Ok.head line c.in-Ok.ensures.range c.in-Ok.ensures.text)
    (cuts (g.T.Source.left c.args.source.now) (g.T.Source.left c.whole_line.new.source) c.args.ahead.now ahead line c.pass.new.self
    c.in_ok-length.length at.same at.line c.front.ensures c.pass.ensures) c.in_err-daemon.ensures.refused))

pub returns-in_err-daemon-clause-unopened : goal.returns-in_err-daemon-clause-unopened
returns-in_err-daemon-clause-unopened g c =
    let p = err_from_is_err_and c.from_residual-in_err-daemon.result c.from_residual-in_err-daemon.ensures.1 in
    let at = c.in_ok-length.ensures in
    let ahead = c.whole_line.new.ahead in
    let line = c.front.result.now in
    let behind = c.in_err-daemon.ensures in
    λ is.
    let told : c.in_err-daemon.field-0.0 ≡ ReadFault = same_fault c.from_residual-in_err-daemon.result p.0 c.in_err-daemon.field-0.0 ReadFault p.1 p.2 is in
    from_start _ (g.T.Source.left c.args.source.now) c.args.ahead.now c.requires.none_read
    (unopened_second _ (g.T.Source.left c.whole_line.new.source) (g.T.Source.left c.daemon_behind.new.source) c.pass.new.self
    c.daemon_behind.new.ahead line (
      no_feed_shown ahead line c.in_ok-length.length at.line c.front.ensures,
      is_short ahead line c.in_ok-length.length at.line c.front.ensures at.few_ahead,
    )
    (lawful_first c.in-Ok.head line c.in-Ok.ensures.range c.in-Ok.ensures.text)
    (cuts (g.T.Source.left c.args.source.now) (g.T.Source.left c.whole_line.new.source) c.args.ahead.now ahead line c.pass.new.self
    c.in_ok-length.length at.same at.line c.front.ensures c.pass.ensures) (behind.same (ap Err told)) (behind.unread (ap Err told)))

pub returns-clause-reads : goal.returns-clause-reads
returns-clause-reads g c =
    let at = c.in_ok-length.ensures in
    let ahead = c.whole_line.new.ahead in
    let line = c.front.result.now in
    from_start _ (g.T.Source.left c.args.source.now) c.args.ahead.now c.requires.none_read
    (opens_with _ _ _ line c.in-Ok.head c.in_ok-daemon.daemon c.new.result.items _
    (is_short ahead line c.in_ok-length.length at.line c.front.ensures at.few_ahead) c.in-Ok.ensures.range c.in-Ok.ensures.text c.of-trace.ensures c.new.ensures.items
    (cuts (g.T.Source.left c.args.source.now) (g.T.Source.left c.whole_line.new.source) c.args.ahead.now ahead line c.pass.new.self
    c.in_ok-length.length at.same at.line c.front.ensures c.pass.ensures) c.in_ok-daemon.ensures.reads)
