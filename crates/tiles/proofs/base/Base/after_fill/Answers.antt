use Rattle.std.proofs.Common.{Some}
use Rattle.tiles.proofs.base.Base.after_fill.Goals as goal

pub returns-clause-changes : goal.returns-clause-changes
returns-clause-changes g c =
    c.of.ensures.changes c.args.self.now c.fill-change.new.self
    (Some c.args.mapping) c.fill-change.ensures.maps c.fill-change.ensures.change
