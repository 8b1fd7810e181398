use Rattle.std.proofs.Common.{◌≡◌, [], map, replicate}
use Rattle.pager_core.proofs.run_parts.empty_rows.Given as goal

abbrev pub invariant-loop : goal.invariant-loop
invariant-loop g l = map (λ v. v.items) l.rows.items ≡ replicate l.counter []
