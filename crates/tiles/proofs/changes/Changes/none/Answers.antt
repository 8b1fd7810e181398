use Rattle.tiles.proofs.PageChanges.{changes_none}
use Rattle.tiles.proofs.changes.Changes.none.Goals as goal

pub returns-clause-changes : goal.returns-clause-changes
returns-clause-changes c old new same = changes_none old new same
