use Rattle.std.proofs.Common.{Some}
use Rattle.population_map.proofs.Placings.{Placed, place_room, placed_extent, placed_count}
use Rattle.population_map.proofs.placing.insert.Goals as goal
use Rattle.population_map.proofs.placing.insert.Goals.{After-put}
use Rattle.population_map.proofs.placing.insert.Given.{Over}

pub put-requires-clause-room : goal.put-requires-clause-room
put-requires-clause-room g c =
    place_room c.args.tree.now c.args.size c.args.first c.requires.marks c.requires.aligned.0 c.requires.aligned.1 c.requires.page c.requires.apart c.requires.room

done : (g : Over) (c : After-put g) → Placed c.args.tree.now c.put.new.self c.args.size c.args.first (Some c.args.id)
done g c = placed_extent c.args.tree.now c.put.new.self c.args.size c.args.first c.args.id c.requires.marks c.requires.aligned.0 c.requires.apart (rw c.of.ensures at c.put.ensures.row) c.put.ensures.splits

pub returns-clause-marks : goal.returns-clause-marks
returns-clause-marks g c = (done g (goal.at.returns-clause-marks g c).After-put).marks

pub returns-clause-placed : goal.returns-clause-placed
returns-clause-placed g c = (done g (goal.at.returns-clause-placed g c).After-put).placed

pub returns-clause-empty : goal.returns-clause-empty
returns-clause-empty g c = (done g (goal.at.returns-clause-empty g c).After-put).empty

pub returns-clause-count : goal.returns-clause-count
returns-clause-count g c =
    placed_count c.args.tree.now c.put.new.self c.args.size c.args.first c.args.id c.requires.aligned.0 c.requires.aligned.1 c.requires.page c.put.ensures.row.roots c.requires.apart (done g (goal.at.returns-clause-count g c).After-put).placed
