use Rattle.std.proofs.Common.{[], ◌∷◌, codes, refl, arith}
use Rattle.trace_lines.specs.Forms.{load_form, address}
use Rattle.trace_lines.proofs.Calls.{word_at, two, at_fault, other_count}
use Rattle.trace_lines.proofs.line.load.Goals as goal

pub returns-in_default : goal.returns-in_default
returns-in_default c =
    other_count c.args.head.now (load_form c.args.head.now.processors c.args.head.now.spaces) c.args.processor.now (codes "load")
    c.args.arguments.now (λ e. omega (arith, e))

pub returns-in_default-2 : goal.returns-in_default-2
returns-in_default-2 c =
    other_count c.args.head.now (load_form c.args.head.now.processors c.args.head.now.spaces) c.args.processor.now (codes "load")
    c.args.arguments.now (λ e. omega (arith, e))

pub returns-in_err-processor : goal.returns-in_err-processor
returns-in_err-processor c =
    let words = c.args.arguments.now in
    rw (two words c.in-len2.len_at_least c.in-len2.len_below)
    (at_fault c.args.head.now (load_form c.args.head.now.processors c.args.head.now.spaces)
    (c.args.processor.now ∷ codes "load" ∷ word_at words 0 ∷ word_at words 1 ∷ [])
    c.from_residual.result c.in_err-processor.field-0.0 c.from_residual.ensures.1 refl
    (c.in_err-processor.ensures.err (address ∷ []) (word_at words 1 ∷ [])))

pub returns-in_err-address : goal.returns-in_err-address
returns-in_err-address c =
    let words = c.args.arguments.now in
    rw (two words c.in-len2.len_at_least c.in-len2.len_below)
    (at_fault c.args.head.now (load_form c.args.head.now.processors c.args.head.now.spaces)
    (c.args.processor.now ∷ codes "load" ∷ word_at words 0 ∷ word_at words 1 ∷ [])
    c.from_residual-in_err-address.result c.in_err-address.field-0.0 c.from_residual-in_err-address.ensures.1 refl
    (rw (c.in_ok-processor.ensures.exact.0, c.in_ok-processor.ensures.exact.1, ← c.in_err-address.ensures.exact) refl))

pub returns : goal.returns
returns c =
    record {
      range = (
        c.in_ok-processor.ensures.range.0,
        (c.in_ok-processor.ensures.range.1, c.in_ok-address.ensures.found.1, c.in_ok-address.ensures.found.3),
        tt,
      );
      text = rw (
        two c.args.arguments.now c.in-len2.len_at_least c.in-len2.len_below,
        c.in_ok-processor.ensures.text.0,
        c.in_ok-processor.ensures.text.1,
        c.in_ok-address.ensures.found.0,
      ) refl;
      err = tt;
    }
