use Rattle.std.proofs.Common.{[], ◌∷◌, codes, refl, arith}
use Rattle.trace_lines.specs.Forms.{protect_form}
use Rattle.trace_lines.proofs.Calls.{word_at, four, at_fault, other_count}
use Rattle.trace_lines.proofs.line.protect.Goals as goal

pub returns-in_default : goal.returns-in_default
returns-in_default c =
    other_count c.args.head.now (protect_form c.args.head.now.processors c.args.head.now.spaces) c.args.processor.now (codes "protect")
    c.args.arguments.now (λ e. omega (arith, e))

pub returns-in_default-2 : goal.returns-in_default-2
returns-in_default-2 c =
    other_count c.args.head.now (protect_form c.args.head.now.processors c.args.head.now.spaces) c.args.processor.now (codes "protect")
    c.args.arguments.now (λ e. omega (arith, e))

pub returns-in_err-processor : goal.returns-in_err-processor
returns-in_err-processor c =
    let words = c.args.arguments.now in
    rw (four words c.in-len4.len_at_least c.in-len4.len_below)
    (at_fault c.args.head.now (protect_form c.args.head.now.processors c.args.head.now.spaces)
    (c.args.processor.now ∷ codes "protect" ∷ word_at words 0 ∷ word_at words 1 ∷ word_at words 2 ∷ word_at words 3 ∷ [])
    c.from_residual.result c.in_err-processor.field-0.0 c.from_residual.ensures.1 (rw c.in-Some.ensures.some refl)
    (c.in_err-processor.ensures.err))

pub returns : goal.returns
returns c =
    record {
      range = (c.in_ok-processor.ensures.range.0, (c.in_ok-processor.ensures.range.1, c.in_ok-processor.ensures.range.2, c.in_ok-processor.ensures.range.3, c.in_ok-processor.ensures.range.4), tt);
      text = rw (
        four c.args.arguments.now c.in-len4.len_at_least c.in-len4.len_below,
        c.in_ok-processor.ensures.text.0,
        c.in_ok-processor.ensures.text.1,
        c.in_ok-processor.ensures.text.2,
        c.in_ok-processor.ensures.text.3,
        c.in-Some.ensures.named,
      ) refl;
      err = tt;
    }
