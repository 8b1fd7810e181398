use Rattle.std.proofs.Common.{◌≡◌, ◌∷◌, decimal, subst, arith}
use Rattle.trace_lines.specs.Words.{seen}
use Rattle.pager_model.specs.PrintedText.{what_words}
use Rattle.history_text.specs.HistoryText.{FitsWhat}
use Rattle.history_text.proofs.Words.{one_number}
use Rattle.history_text.proofs.line.entry_behind.Goals as goal

pub returns-in_err-what-clause-none : goal.returns-in_err-what-clause-none
returns-in_err-what-clause-none c = rw c.from_residual-in_err-what.ensures (λ e is same.
    let made : c.args.processor.now ≡ decimal e.processor = cc in
    let named : c.args.name.now ∷ seen c.args.words.now ≡ what_words e.what = cc in
    let known = c.in_ok-processor.ensures.some in
    let by : e.processor ≡ c.in_ok-processor.processor =
    one_number c.args.processor.now e.processor c.in_ok-processor.processor (omega (arith, is.processor, c.actors.ensures)) (omega arith) made known.0 in
    c.in_err-what.ensures.none e.what (subst (λ p. FitsWhat c.args.trace.now p e.what) by is.what) named)
