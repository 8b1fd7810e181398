use Rattle.std.proofs.Common.{◌≡◌, [], ◌++◌, ap, ◌∙◌, arith}
use Rattle.std.specs.List.{join_with_byte}
use Rattle.std.proofs.lemmas.Grind.{common_steps}
use Rattle.std.proofs.lemmas.List.{append-nil}
use Rattle.pager_model.specs.TraceText.{line_words}
use Rattle.trace_lines.specs.Words.{words_of}
use Rattle.trace_lines.proofs.CutWords.{call_words_again}
use Rattle.trace_lines.proofs.line.call.Goals as goal

pub returns-then-is_empty : goal.returns-then-is_empty
returns-then-is_empty c =
    let head = c.args.head.now in
    let joined = join_with_byte 32 (line_words c.in-Some.call) in
    let none : c.in-Some.rest.now ≡ [] = grind (arith, common_steps) in
    let text : c.args.line.now ≡ joined = c.in-Some.ensures.text ∙ ap (λ r. joined ++ r) none ∙ append-nil joined in
    record {
      range = c.in-Some.ensures.range head.version;
      text = ap words_of text ∙ call_words_again head.version head.processors head.spaces c.in-Some.call (omega arith) (omega arith)
          (c.in-Some.ensures.range head.version);
      err = tt;
    }
