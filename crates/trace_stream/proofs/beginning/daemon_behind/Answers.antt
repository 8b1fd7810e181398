use Rattle.std.proofs.Common.{◌∙◌, ◌+◌, drop, refl, subst}
use Rattle.line_source.specs.Lines.{IsLineAt, IsNext}
use Rattle.line_source.specs.declared.Next.{Next}
use Rattle.trace_stream.proofs.Beginnings.{bad_daemon, daemon_long, daemon_rest, no_daemon, some_daemon}
use Rattle.trace_stream.proofs.NextCalls.{cuts}
use Rattle.trace_stream.proofs.NextLines.{is_short}
use Rattle.trace_stream.proofs.beginning.daemon_behind.Goals as goal

pub returns-in-Long-clause-refused : goal.returns-in-Long-clause-refused
returns-in-Long-clause-refused g c =
    daemon_long (g.T.Source.left c.args.source.now) (g.T.Source.left c.look.new.source) c.args.ahead.now c.look.new.self c.in-Ok.next
    c.in-Ok.ensures.same c.in-Ok.ensures.next c.in-Long.is

pub returns-in-Rest-clause-reads : goal.returns-in-Rest-clause-reads
returns-in-Rest-clause-reads g c =
    daemon_rest c.in-Rest.field-0 (g.T.Source.left c.args.source.now) (g.T.Source.left c.look.new.source) c.args.ahead.now c.look.new.self
    c.in-Ok.next c.in-Ok.ensures.same c.in-Ok.ensures.next c.in-Rest.is

pub returns-in_default-daemon_numbers-clause-reads : goal.returns-in_default-daemon_numbers-clause-reads
returns-in_default-daemon_numbers-clause-reads g c =
    let ahead = c.look.new.self in
    let line = c.front.result.now in
    let at : IsLineAt c.in-Line.length ahead =
    subst (λ (n : Next). IsNext n ahead (g.T.Source.left c.args.source.now) (g.T.Source.left c.look.new.source)) c.in-Line.is c.in-Ok.ensures.next in
    no_daemon (g.T.Source.left c.args.source.now) (g.T.Source.left c.look.new.source) _ c.args.ahead.now ahead line
    (is_short ahead line c.in-Line.length at c.front.ensures c.in-Ok.ensures.few) c.in_default-daemon_numbers.ensures.none c.in-Ok.ensures.same
    (cuts (g.T.Source.left c.args.source.now) (g.T.Source.left c.look.new.source) c.args.ahead.now ahead line (drop (c.in-Line.length + 1) ahead)
    c.in-Line.length c.in-Ok.ensures.same at c.front.ensures refl)

pub returns-in-Err-clause-refused : goal.returns-in-Err-clause-refused
returns-in-Err-clause-refused g c =
    let ahead = c.look.new.self in
    let line = c.front.result.now in
    let at : IsLineAt c.in-Line.length ahead =
    subst (λ (n : Next). IsNext n ahead (g.T.Source.left c.args.source.now) (g.T.Source.left c.look.new.source)) c.in-Line.is c.in-Ok.ensures.next in
    bad_daemon _ _ line c.in-Some.low.now c.in-Some.turns.now c.in-Err.cause
    (is_short ahead line c.in-Line.length at c.front.ensures c.in-Ok.ensures.few) c.in-Some.ensures.some c.in-Err.ensures.err
    (cuts (g.T.Source.left c.args.source.now) (g.T.Source.left c.look.new.source) c.args.ahead.now ahead line (drop (c.in-Line.length + 1) ahead)
    c.in-Line.length c.in-Ok.ensures.same at c.front.ensures refl)

pub returns-clause-reads : goal.returns-clause-reads
returns-clause-reads g c =
    let ahead = c.look.new.self in
    let line = c.front.result.now in
    let at : IsLineAt c.in-Line.length ahead =
    subst (λ (n : Next). IsNext n ahead (g.T.Source.left c.args.source.now) (g.T.Source.left c.look.new.source)) c.in-Line.is c.in-Ok.ensures.next in
    some_daemon _ _ line c.in-Ok-daemon.daemon (is_short ahead line c.in-Line.length at c.front.ensures c.in-Ok.ensures.few)
    (c.in-Some.ensures.some ∙ c.in-Ok-daemon.ensures.text) c.in-Ok-daemon.ensures.range
    (cuts (g.T.Source.left c.args.source.now) (g.T.Source.left c.look.new.source) c.args.ahead.now ahead line c.pass.new.self
    c.in-Line.length c.in-Ok.ensures.same at c.front.ensures c.pass.ensures)
