use Rattle.std.proofs.Common.{[], ◌∷◌, codes, refl, arith}
use Rattle.trace_lines.specs.Forms.{map_form}
use Rattle.trace_lines.proofs.Calls.{word_at, five, at_fault, misfit, other_count}
use Rattle.trace_lines.proofs.line.map.Goals as goal

pub returns-in_default : goal.returns-in_default
returns-in_default c =
    other_count c.args.head.now (map_form c.args.head.now.processors c.args.head.now.spaces) c.args.processor.now (codes "map")
    c.args.arguments.now (λ e. omega (arith, e))

pub returns-in_default-3 : goal.returns-in_default-3
returns-in_default-3 c =
    other_count c.args.head.now (map_form c.args.head.now.processors c.args.head.now.spaces) c.args.processor.now (codes "map")
    c.args.arguments.now (λ e. omega (arith, e))

pub returns-in_default-2 : goal.returns-in_default-2
returns-in_default-2 c =
    let words = c.args.arguments.now in
    rw (five words c.in-len5.len_at_least c.in-len5.len_below)
    (misfit c.args.head.now (map_form c.args.head.now.processors c.args.head.now.spaces)
    (c.args.processor.now ∷ codes "map" ∷ word_at words 0 ∷ word_at words 1 ∷ word_at words 2 ∷ word_at words 3 ∷ word_at words 4 ∷ [])
    (rw (c.in_default-2.ensures.some, c.in_default-2.ensures'.none) refl))

pub returns-in_err-processor : goal.returns-in_err-processor
returns-in_err-processor c =
    let words = c.args.arguments.now in
    rw (five words c.in-len5.len_at_least c.in-len5.len_below)
    (at_fault c.args.head.now (map_form c.args.head.now.processors c.args.head.now.spaces)
    (c.args.processor.now ∷ codes "map" ∷ word_at words 0 ∷ word_at words 1 ∷ word_at words 2 ∷ word_at words 3 ∷ word_at words 4 ∷ [])
    c.from_residual.result c.in_err-processor.field-0.0 c.from_residual.ensures.1 (rw (c.in-Some-Some.ensures.some, c.in-Some-Some.ensures'.some) refl)
    (c.in_err-processor.ensures.err))

pub returns : goal.returns
returns c =
    record {
      range = (c.in_ok-processor.ensures.range.0, (c.in_ok-processor.ensures.range.1, c.in_ok-processor.ensures.range.2, c.in_ok-processor.ensures.range.3, c.in_ok-processor.ensures.range.4), tt);
      text = rw (
        five c.args.arguments.now c.in-len5.len_at_least c.in-len5.len_below,
        c.in_ok-processor.ensures.text.0,
        c.in_ok-processor.ensures.text.1,
        c.in_ok-processor.ensures.text.2,
        c.in_ok-processor.ensures.text.3,
        c.in-Some-Some.ensures.named,
        c.in-Some-Some.ensures'.named,
      ) refl;
      err = tt;
    }
