use Rattle.pager_locks.proofs.OpenedPagers.{IsLockedSpace-next, AreLeft-next}
use Rattle.pager_locks.proofs.locks.next.Goals as goal

pub new-requires-after_bounds : goal.new-requires-after_bounds
new-requires-after_bounds g c κs within =
    let left = rw c.in_ok-space.ensures.items at c.requires.left in
    let both = rw c.in-Some.ensures.items at left in
    IsLockedSpace-next _ _ _ _ _ _ both

pub returns-clause-left : goal.returns-clause-left
returns-clause-left g c =
    let left = rw c.in_ok-space.ensures.items at c.requires.left in
    let both = rw c.in-Some.ensures.items at left in
    AreLeft-next _ _ _ _ _ _ both
