use Rattle.std.proofs.Common.{◌≡◌, ◌≢◌, ℕ, List, [], ◌∷◌, ◌++◌, length, codes, sym, ◌∙◌, ap, arith}
use Rattle.std.proofs.lemmas.Grind.{common_steps}
use Rattle.std.proofs.lemmas.Slice.Eq.{bytes_eq-Decides}
use Rattle.pager_model.specs.TraceText.{line_words}
use Rattle.trace_lines.specs.Forms.{call_forms}
use Rattle.trace_reader.proofs.Refusals.{faulty_line, line_is, past_the_end}
use Rattle.trace_reader.proofs.text.next_call.Goals as goal

pub returns-then-is_empty-clause-end : goal.returns-then-is_empty-clause-end
returns-then-is_empty-clause-end c =
    let same : c.in-Some-cut.line.now ≡ codes "end" = (bytes_eq-Decides c.in-Some-cut.line.now (codes "end")).0 (sym c.if-eq.ensures) in
    let none : c.in-Some-cut.after.now ≡ [] = grind (arith, common_steps) in
    c.in-Some-cut.ensures.parts ∙ ap (λ (x : List ℕ). x ++ 10 ∷ c.in-Some-cut.after.now) same ∙ ap (λ (x : List ℕ). codes "end" ++ 10 ∷ x) none

pub returns-then-eq-clause-refused : goal.returns-then-eq-clause-refused
returns-then-eq-clause-refused c = λ calls.
    let head = c.args.head.now in
    let some : c.in-Some-cut.after.now ≢ [] = λ e. let none : length c.in-Some-cut.after.now ≡ 0 = ap length e in grind (arith, common_steps) in
    past_the_end (call_forms head.version head.processors head.spaces) c.args.number calls c.args.text.now c.in-Some-cut.line.now
    c.in-Some-cut.after.now c.in-Some-cut.ensures.first (sym c.if-eq.ensures) some

pub returns-in-Err-clause-refused : goal.returns-in-Err-clause-refused
returns-in-Err-clause-refused c = λ calls.
    let head = c.args.head.now in
    faulty_line (call_forms head.version head.processors head.spaces) c.args.number calls c.args.text.now c.in-Some-cut.line.now
    c.in-Some-cut.after.now c.in-Err.cause c.in-Some-cut.ensures.first (sym c.if-eq.ensures) c.in-Err.ensures.err

pub returns-clause-text : goal.returns-clause-text
returns-clause-text c =
    line_is c.args.text.now c.in-Some-cut.line.now c.in-Some-cut.after.now (line_words c.in-Ok.call) c.in-Some-cut.ensures.parts c.in-Ok.ensures.text
