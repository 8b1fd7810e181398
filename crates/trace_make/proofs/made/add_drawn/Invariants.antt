use Rattle.std.proofs.Common.{◌≡◌, ◌-◌, ◌++◌}
use Rattle.trace_make.specs.Made.{drawn_lines}
use Rattle.trace_make.proofs.made.add_drawn.Given as goal

abbrev pub invariant-loop : goal.invariant-loop
invariant-loop l =
    l.lines.items ++ drawn_lines l.fn.processors l.fn.spaces
    (l.fn.count - l.counter) l.generator ≡ l.fn.lines.items ++ drawn_lines l.fn.processors l.fn.spaces l.fn.count l.fn.generator
