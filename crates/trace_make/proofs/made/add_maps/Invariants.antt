use Rattle.std.proofs.Common.{◌≡◌, ◌++◌, map}
use Rattle.std.specs.List.{range_with_len}
use Rattle.trace_make.specs.Made.{map_line}
use Rattle.trace_make.proofs.made.add_maps.Given as goal

abbrev pub invariant-loop-space : goal.invariant-loop-space
invariant-loop-space l = l.lines.items ≡ l.fn.lines.items ++ map (map_line l.fn.processors) (range_with_len 0 l.space)
