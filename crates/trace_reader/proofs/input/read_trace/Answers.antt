use Rattle.std.proofs.Common.{Err, ap}
use Rattle.std.proofs.lemmas.Result.{err_from_is_err_and}
use Rattle.trace_reader.proofs.SourceBytes.{refused_as}
use Rattle.trace_reader.proofs.input.read_trace.Goals as goal

pub returns-in_err-text-clause-refused : goal.returns-in_err-text-clause-refused
returns-in_err-text-clause-refused g c =
    let p = err_from_is_err_and c.from_residual.result c.from_residual.ensures.1 in
    let fault = c.in_err-text.field-0.0 in
    rw (p.1, p.2) (refused_as fault (g.T.Source.left c.args.source.now) (λ long. c.in_err-text.ensures.too_long (ap Err long)))
