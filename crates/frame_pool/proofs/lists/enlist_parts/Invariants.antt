use Rattle.frame_pool.proofs.ListsByFrame.{HasParts, split_from}
use Rattle.frame_pool.proofs.lists.enlist_parts.Given as goal

abbrev pub invariant-loop-i : goal.invariant-loop-i
invariant-loop-i l = HasParts (split_from l.sizes l.fn.lists l.reservations l.whole) l.i l.lists
