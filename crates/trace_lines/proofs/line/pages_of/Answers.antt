use Rattle.std.proofs.Common.{◌≡◌, [], ◌∷◌, Some}
use Rattle.trace_lines.specs.Forms.{Number, page, pages, leftmost}
use Rattle.trace_lines.proofs.Calls.{told}
use Rattle.trace_lines.proofs.line.pages_of.Goals as goal

pub returns-in_err-processor-clause-err : goal.returns-in_err-processor-clause-err
returns-in_err-processor-clause-err c =
    told (λ cause. leftmost (Number 1 0 c.args.head.now.processors ∷ Number 1 0 c.args.head.now.spaces ∷ page ∷ pages ∷ [])
    (c.args.processor.now ∷ c.args.space.now ∷ c.args.first.now ∷ c.args.count.now ∷ []) ≡ Some cause)
    c.from_residual.result c.in_err-processor.field-0.0 c.from_residual.ensures.1
    (c.in_err-processor.ensures.err (page ∷ pages ∷ []) (c.args.first.now ∷ c.args.count.now ∷ []))
