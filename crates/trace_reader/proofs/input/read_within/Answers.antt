use Rattle.std.proofs.Common.{◌+◌, ◌++◌, take, length, length-append, length-take-le, arith, cond, subst, sym, ap, ◌∙◌}
use Rattle.trace_reader.proofs.SourceBytes.{Took, longer, took_more}
use Rattle.trace_reader.proofs.input.read_within.Goals as goal

pub returns-then-n-most-clause-too_long : goal.returns-then-n-most-clause-too_long
returns-then-n-most-clause-too_long g c = λ _.
    longer c.args.most (g.T.Source.left c.args.source.now) (g.T.Source.left c.pieces.source) c.pieces.text.items c.in-Ok.n c.pieces.invariant.took
    c.in-Ok.ensures.had (omega arith)

pub pieces-preserved : goal.pieces-preserved
pieces-preserved g c =
    let text = c.pieces.text.items in
    let given = take c.in-Ok.n c.read.new.into in
    let grown = c.extend_from_slice.ensures.items ∙ ap (λ b. cond b (text ++ given) text) (sym c.in_ok-map_err.ensures.variant) in
    let many = ap length grown ∙ length-append text given ∙ ap (λ n. length text + n) (length-take-le c.in-Ok.n c.read.new.into (omega (arith, c.in-Ok.ensures.within))) in
    let read = c.in-Ok.ensures in
    let took = took_more _ _ _ text c.read.new.into c.in-Ok.n c.pieces.invariant.took read.gave read.rest in record {
      took = subst (Took (g.T.Source.left c.args.source.now) (g.T.Source.left c.read.new.self)) (sym grown) took;
      no_fault = read.unfailed ∙ c.pieces.invariant.no_fault;
      reads_few = omega (arith, many);
      short = omega (arith, many);
    }
