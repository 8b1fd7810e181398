use Rattle.std.proofs.Common.{true≢false, sym}
use Rattle.trace_stream.proofs.NextLines.{refused_after}
use Rattle.trace_stream.proofs.next_line.nothing_behind.Goals as goal

pub returns-else-is_empty-clause-refused : goal.returns-else-is_empty-clause-refused
returns-else-is_empty-clause-refused g c =
    refused_after c.args.number (g.T.Source.left c.args.source.now) (g.T.Source.left c.look.new.source) c.args.ahead.now c.look.new.self
    c.in-Ok.ensures.same (λ none. absurd (true≢false (sym (c.if-is_empty.ensures.1 none))))
