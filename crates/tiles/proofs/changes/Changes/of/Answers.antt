use Rattle.tiles.proofs.PageChanges.{changes_of}
use Rattle.tiles.proofs.changes.Changes.of.Goals as goal

pub returns-clause-changes : goal.returns-clause-changes
returns-clause-changes c old new given maps changed = changes_of old new c.args.page given c.args.change c.requires.page maps changed
