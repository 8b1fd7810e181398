use Rattle.std.proofs.Common.{◌-◌, ◌+◌, ◌++◌, ◌∷◌, [], ap, ◌∙◌}
use Rattle.trace_make.specs.Made.{drawn_line, drawn_lines}
use Rattle.trace_make.proofs.MadeLines.{lines_more}
use Rattle.trace_make.proofs.made.add_drawn.Goals as goal

pub loop-preserved : goal.loop-preserved
loop-preserved c =
    let left = drawn_lines c.args.processors c.args.spaces (c.args.count - (c.loop.counter + 1)) in
    ap (λ l. l ++ left c.drawn_line.new.generator) (c.in_ok-push.ensures.items
    ∙ ap (λ x. c.loop.lines.items ++ x ∷ []) c.drawn_line.ensures.line)
    ∙ ap (λ x. (c.loop.lines.items ++ drawn_line c.args.processors c.args.spaces c.loop.generator ∷ []) ++ left x) c.drawn_line.ensures.after
    ∙ lines_more c.args.processors c.args.spaces c.args.count c.loop.counter c.loop.generator c.loop.lines.items _ c.loop-test.true c.loop.invariant
