use Rattle.trace_stream.proofs.NextLines.{refused_long, refused_rest}
use Rattle.trace_stream.proofs.next_line.whole_line.Goals as goal

pub returns-in-Long-clause-refused : goal.returns-in-Long-clause-refused
returns-in-Long-clause-refused g c =
    refused_long c.args.number (g.T.Source.left c.args.source.now) (g.T.Source.left c.look.new.source) c.args.ahead.now c.look.new.self c.in-Ok.next
    c.in-Ok.ensures.same c.in-Ok.ensures.next c.in-Long.is

pub returns-in-Rest-clause-refused : goal.returns-in-Rest-clause-refused
returns-in-Rest-clause-refused g c =
    refused_rest c.args.number c.in-Rest.field-0 (g.T.Source.left c.args.source.now) (g.T.Source.left c.look.new.source) c.args.ahead.now
    c.look.new.self c.in-Ok.next c.in-Ok.ensures.same c.in-Ok.ensures.next c.in-Rest.is
