use Rattle.std.proofs.Common.{◌^◌, [], ◌∷◌, codes, refl, sym, arith}
use Rattle.trace_lines.proofs.Numbers.{number_in_takes}
use Rattle.trace_lines.specs.Forms.{Number, store_form, address}
use Rattle.trace_lines.proofs.Calls.{word_at, three, at_fault, other_count}
use Rattle.trace_lines.proofs.line.store.Goals as goal

pub returns-in_default : goal.returns-in_default
returns-in_default c =
    other_count c.args.head.now (store_form c.args.head.now.processors c.args.head.now.spaces) c.args.processor.now (codes "store")
    c.args.arguments.now (λ e. omega (arith, e))

pub returns-in_default-2 : goal.returns-in_default-2
returns-in_default-2 c =
    other_count c.args.head.now (store_form c.args.head.now.processors c.args.head.now.spaces) c.args.processor.now (codes "store")
    c.args.arguments.now (λ e. omega (arith, e))

pub returns-in_err-processor : goal.returns-in_err-processor
returns-in_err-processor c =
    let words = c.args.arguments.now in
    rw (three words c.in-len3.len_at_least c.in-len3.len_below)
    (at_fault c.args.head.now (store_form c.args.head.now.processors c.args.head.now.spaces)
    (c.args.processor.now ∷ codes "store" ∷ word_at words 0 ∷ word_at words 1 ∷ word_at words 2 ∷ [])
    c.from_residual.result c.in_err-processor.field-0.0 c.from_residual.ensures.1 refl
    (c.in_err-processor.ensures.err (address ∷ Number 1 0 (2 ^ 64) ∷ []) (word_at words 1 ∷ word_at words 2 ∷ [])))

pub returns-in_err-address : goal.returns-in_err-address
returns-in_err-address c =
    let words = c.args.arguments.now in
    rw (three words c.in-len3.len_at_least c.in-len3.len_below)
    (at_fault c.args.head.now (store_form c.args.head.now.processors c.args.head.now.spaces)
    (c.args.processor.now ∷ codes "store" ∷ word_at words 0 ∷ word_at words 1 ∷ word_at words 2 ∷ [])
    c.from_residual-in_err-address.result c.in_err-address.field-0.0 c.from_residual-in_err-address.ensures.1 refl
    (rw (c.in_ok-processor.ensures.exact.0, c.in_ok-processor.ensures.exact.1, ← c.in_err-address.ensures.exact) refl))

pub returns-in_err-word : goal.returns-in_err-word
returns-in_err-word c =
    let words = c.args.arguments.now in
    rw (three words c.in-len3.len_at_least c.in-len3.len_below)
    (at_fault c.args.head.now (store_form c.args.head.now.processors c.args.head.now.spaces)
    (c.args.processor.now ∷ codes "store" ∷ word_at words 0 ∷ word_at words 1 ∷ word_at words 2 ∷ [])
    c.from_residual-in_err-word.result c.in_err-word.field-0.0 c.from_residual-in_err-word.ensures.1 refl
    (rw (c.in_ok-processor.ensures.exact.0, c.in_ok-processor.ensures.exact.1, ← c.in_ok-address.ensures.exact, ← c.in_err-word.ensures.exact) refl))

pub returns : goal.returns
returns c =
    record {
      range = (
        c.in_ok-processor.ensures.range.0,
        (c.in_ok-processor.ensures.range.1, c.in_ok-address.ensures.found.1, c.in_ok-address.ensures.found.3, (number_in_takes 1 0 (2 ^ 64) (word_at c.args.arguments.now 2) c.in_ok-word.word (sym c.in_ok-word.ensures.exact)).end_in),
        tt,
      );
      text = rw (
        three c.args.arguments.now c.in-len3.len_at_least c.in-len3.len_below,
        c.in_ok-processor.ensures.text.0,
        c.in_ok-processor.ensures.text.1,
        c.in_ok-address.ensures.found.0,
        c.in_ok-word.ensures.found,
      ) refl;
      err = tt;
    }
