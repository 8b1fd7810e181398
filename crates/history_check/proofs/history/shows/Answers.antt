use Rattle.pager_model.specs.Legal.{entries_in}
use Rattle.history_check.proofs.Rested.{Shows-rests}
use Rattle.history_check.proofs.history.shows.Goals as goal

pub returns-else-is_at_rest-clause-other : goal.returns-else-is_at_rest-clause-other
returns-else-is_at_rest-clause-other c = λ not_yet shows.
    c.is_at_rest.ensures.other not_yet (entries_in c.args.history.now) c.requires.stands (Shows-rests c.args.trace.now (entries_in c.args.history.now) shows)
