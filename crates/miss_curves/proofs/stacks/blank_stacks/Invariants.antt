use Rattle.std.proofs.Common.{◌≡◌, length}
use Rattle.std.specs.List.{All}
use Rattle.lru_stack.specs.Stacks.{IsBlank}
use Rattle.miss_curves.proofs.stacks.blank_stacks.Given as goal

abbrev pub invariant-loop : goal.invariant-loop
invariant-loop l = (length l.stacks.items ≡ l.counter) × All (IsBlank l.places) l.stacks.items
