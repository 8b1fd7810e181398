use Rattle.std.proofs.Common.{◌≡◌, ◌≢◌, ◌+◌, ℕ, List, [], ◌∷◌, ◌++◌, length, Option, IfSome, ◌∙◌, ap, subst, sym, arith}
use Rattle.std.proofs.lemmas.Grind.{common_steps}
use Rattle.std.proofs.lemmas.List.Elements.{All-push}
use Rattle.std.proofs.lemmas.Result.{err_from_is_err_and}
use Rattle.pager_model.specs.Bounds.{most_calls}
use Rattle.pager_model.specs.declared.call.Line.{Line}
use Rattle.pager_model.specs.TraceText.{IsLine, call_line}
use denote.Ref.{Bor}
use Rattle.trace_lines.specs.Forms.{call_forms}
use Rattle.trace_reader.specs.Refusals.{IsCause, lines_of, calls_refusal}
use Rattle.trace_reader.proofs.CutTexts.{before_call, call_too_many}
use Rattle.trace_reader.proofs.Refusals.{one_more_line}
use Rattle.trace_reader.proofs.text.calls.Goals as goal

pub returns-in_err-call-clause-refused : goal.returns-in_err-call-clause-refused
returns-in_err-call-clause-refused c =
    let calls = c.lines.calls.items in
    let fault = c.in_err-call.field-0.0 in
    let p = err_from_is_err_and c.from_residual.result c.from_residual.ensures.1 in
    let len : c.len.result ≡ length calls = omega arith in
    let told = c.in_err-call.ensures.refused (length calls) in
    rw (p.1, p.2) (subst (λ refusal. IsCause refusal fault) (sym c.lines.invariant.refusal) (rw len at told))

pub returns-then-len-eq-MAX_CALLS-clause-refused :
    goal.returns-then-len-eq-MAX_CALLS-clause-refused
returns-then-len-eq-MAX_CALLS-clause-refused c =
    let head = c.args.head.now in
    let calls = c.lines.calls.items in
    let forms = call_forms head.version head.processors head.spaces in
    let line : IsLine head.version head.processors head.spaces c.in-Some.call =
    subst (λ (next : Option (Line × Bor (List ℕ))). IfSome next (λ parts. IsLine head.version head.processors head.spaces parts.0)) c.in-Some.is c.in_ok-call.ensures.line in
    let text : c.lines.rest.now ≡ call_line c.in-Some.call ++ c.in-Some.after.now =
    subst (λ (next : Option (Line × Bor (List ℕ))). IfSome next (λ parts. c.lines.rest.now ≡ call_line parts.0 ++ parts.1.now)) c.in-Some.is c.in_ok-call.ensures.text in
    let many : length calls ≡ most_calls = omega arith in
    c.lines.invariant.refusal
    ∙ ap (λ (x : List ℕ). calls_refusal forms (c.args.first + length calls) (length calls) (lines_of x)) text
    ∙ call_too_many head.version head.processors head.spaces (c.args.first + length calls) (length calls) c.in-Some.call c.in-Some.after.now
    (omega (arith, c.requires.range.3.1)) (omega (arith, c.requires.range.4.1)) line many

pub lines-preserved : goal.lines-preserved
lines-preserved c =
    let head = c.args.head.now in
    let calls = c.lines.calls.items in
    let forms = call_forms head.version head.processors head.spaces in
    let line : IsLine head.version head.processors head.spaces c.in-Some.call =
    subst (λ (next : Option (Line × Bor (List ℕ))). IfSome next (λ parts. IsLine head.version head.processors head.spaces parts.0)) c.in-Some.is c.in_ok-call.ensures.line in
    let text : c.lines.rest.now ≡ call_line c.in-Some.call ++ c.in-Some.after.now =
    subst (λ (next : Option (Line × Bor (List ℕ))). IfSome next (λ parts. c.lines.rest.now ≡ call_line parts.0 ++ parts.1.now)) c.in-Some.is c.in_ok-call.ensures.text in
    let items : c.push.new.self.items ≡ calls ++ c.in-Some.call ∷ [] = grind (arith, common_steps) in
    let more : length c.push.new.self.items ≡ length calls + 1 = grind (arith, common_steps) in
    let few : length calls ≢ most_calls = λ e. omega arith in
    let next = before_call head.version head.processors head.spaces (c.args.first + length calls) (length calls) c.in-Some.call c.in-Some.after.now
    (omega (arith, c.requires.range.3.1)) (omega (arith, c.requires.range.4.1)) line few in
    let number : c.args.first + length calls + 1 ≡ c.args.first + length c.push.new.self.items = omega arith in
    record {
      lines = rw items (All-push
          (IsLine head.version head.processors head.spaces) calls c.in-Some.call c.lines.invariant.lines line);
      few = omega arith;
      parts = rw items (one_more_line c.args.text.now c.lines.rest.now c.in-Some.after.now calls c.in-Some.call c.lines.invariant.parts text);
      refusal = c.lines.invariant.refusal
          ∙ ap (λ (x : List ℕ). calls_refusal forms (c.args.first + length calls) (length calls) (lines_of x)) text
          ∙ next ∙ ap (λ (n : ℕ). calls_refusal forms n (length calls + 1) (lines_of c.in-Some.after.now)) number
          ∙ ap (λ (n : ℕ). calls_refusal forms (c.args.first + length c.push.new.self.items) n (lines_of c.in-Some.after.now)) (sym more);
    }
