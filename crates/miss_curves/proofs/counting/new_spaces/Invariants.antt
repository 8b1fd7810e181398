use Rattle.std.proofs.Common.{◌≡◌, length}
use Rattle.std.specs.List.{All}
use Rattle.miss_curves.specs.Histories.{IsNew}
use Rattle.miss_curves.proofs.counting.new_spaces.Given as goal

abbrev pub invariant-loop : goal.invariant-loop
invariant-loop l = (length l.all.items ≡ l.counter) × All (IsNew l.frames) l.all.items
