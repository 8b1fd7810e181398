use Rattle.std.proofs.Common.{◌≡◌, ◌-◌}
use Rattle.pager_model.specs.Ages.{first_oldest, list_at}
use Rattle.reservation_lists.proofs.Lists.first_oldest.Given as goal

abbrev pub invariant-loop-level : goal.invariant-loop-level
invariant-loop-level l = first_oldest (list_at l.self.lists) l.level (3 - l.level) ≡ first_oldest (list_at l.self.lists) l.fn.size (3 - l.fn.size)
