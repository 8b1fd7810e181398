use Rattle.tiles.proofs.EntryChanges.{none_kept, none_at}
use Rattle.tiles.proofs.CountChanges.{none_counts}
use Rattle.tiles.proofs.PageCounts.{no_pages}
use Rattle.tiles.proofs.mixed.Mixed.create.Goals as goal

pub invariant_of-result : goal.invariant_of-result
invariant_of-result c =
    let made = c.in_ok-tree.ensures in
    let tree = c.in_ok-tree.tree in
    (none_kept tree c.args.frames made.empty made.splits made.roots made.room, none_counts tree (none_at tree made.empty))

pub returns-clause-none : goal.returns-clause-none
returns-clause-none c = none_at c.in_ok-tree.tree c.in_ok-tree.ensures.empty

pub returns-clause-pages : goal.returns-clause-pages
returns-clause-pages c = no_pages c.in_ok-tree.tree (none_at c.in_ok-tree.tree c.in_ok-tree.ensures.empty)
