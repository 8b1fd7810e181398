use Rattle.std.proofs.Common.{◌≡◌, length}
use Rattle.std.specs.List.{All}
use Rattle.history_check.specs.Standing.{IsNewSpace}
use Rattle.history_check.proofs.checker.new_spaces.Given as goal

abbrev pub invariant-loop : goal.invariant-loop
invariant-loop l = (length l.all.items ≡ l.counter) × All (IsNewSpace l.sizes l.frames l.processors) l.all.items
