use Rattle.std.proofs.Common.{None, is_some, ap, sym, ◌∙◌, arith}
use Rattle.population_map.proofs.Marks.{row_if_id}
use Rattle.population_map.proofs.Placings.{Placed, removed_extent, removed_count, same_count}
use Rattle.population_map.proofs.placing.remove.Goals as goal
use Rattle.population_map.proofs.placing.remove.Goals.{After-remove}
use Rattle.population_map.proofs.placing.remove.Given.{Over}

pub remove-requires : goal.remove-requires
remove-requires g c =
    row_if_id c.evict_all.new.tree c.args.size c.args.first (ap is_some
    (c.evict_all.ensures.ids c.args.size c.args.first c.requires.aligned.0) ∙ c.requires.placed)

done : (g : Over) (c : After-remove g) → Placed c.evict_all.new.tree c.remove.new.self c.args.size c.args.first None
done g c =
    removed_extent c.evict_all.new.tree c.remove.new.self c.args.size c.args.first c.evict_all.ensures.marks c.requires.aligned.0
    c.evict_all.ensures.empty.emptied c.remove.ensures.row c.remove.ensures.splits

pub returns-clause-marks : goal.returns-clause-marks
returns-clause-marks g c = (done g (goal.at.returns-clause-marks g c).After-remove).marks

pub returns-clause-placed : goal.returns-clause-placed
returns-clause-placed g c =
    let d = done g (goal.at.returns-clause-placed g c).After-remove in
    record {
      changed = d.placed.changed;
      others = λ part other less apart. d.placed.others part other less apart ∙ c.evict_all.ensures.ids part other less;
    }

pub returns-clause-empty : goal.returns-clause-empty
returns-clause-empty g c =
    let d = done g (goal.at.returns-clause-empty g c).After-remove in
    record {
      emptied = d.empty.emptied;
      others = λ other apart. d.empty.others other apart ∙ c.evict_all.ensures.empty.others other apart;
    }

pub returns-clause-count : goal.returns-clause-count
returns-clause-count g c =
    let d = done g (goal.at.returns-clause-count g c).After-remove in
    let evicted = c.evict_all.ensures in
    sym (sym (same_count c.args.tree.now c.evict_all.new.tree evicted.room.roots evicted.ids)
    ∙ removed_count c.evict_all.new.tree c.remove.new.self c.args.size c.args.first evicted.marks c.requires.aligned.0 c.requires.aligned.1
    (omega (arith, c.requires.page, evicted.room.roots)) c.remove.ensures.row.roots
    (ap is_some (evicted.ids c.args.size c.args.first c.requires.aligned.0) ∙ c.requires.placed) d.placed)
