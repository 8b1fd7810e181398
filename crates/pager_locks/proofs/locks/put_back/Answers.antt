use Rattle.pager_locks.proofs.ClosedPagers.{AreParts-more}
use Rattle.pager_locks.proofs.locks.put_back.Goals as goal

pub returns-in-Some-clause-parts : goal.returns-in-Some-clause-parts
returns-in-Some-clause-parts g c =
    rw c.push_reserved.ensures.items
    (rw c.push_reserved-in-Some.ensures.items (AreParts-more _ _ _ _ _ _ c.requires.parts c.into_parts-space.ensures))
