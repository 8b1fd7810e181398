use Rattle.std.proofs.Common.{[], ◌∷◌, ◌++◌, sym, subst}
use Rattle.run_history.specs.Kept.{Kept}
use Rattle.pager_core.specs.Listing.{IsListed}
use Rattle.pager_core.proofs.MoreEntries.{listed_more}
use Rattle.pager_core.proofs.listed.ListedLog.add.Goals as goal

pub returns-clause-stands : goal.returns-clause-stands
returns-clause-stands c = λ s h is may.
    subst (λ (k : Kept). IsListed k.items k.room (h ++ c.args.entry.now ∷ [])) (sym c.push.ensures)
    (listed_more c.args.self.now.history.items c.args.self.now.history.room h c.args.entry.now is c.requires.room)
