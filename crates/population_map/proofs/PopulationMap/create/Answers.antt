use Rattle.std.proofs.Common.{arith}
use Rattle.population_map.proofs.Placings.{start_marks, start_ids, start_pages, start_count}
use Rattle.population_map.proofs.PopulationMap.create.Goals as goal

pub invariant_of-result : goal.invariant_of-result
invariant_of-result c =
    let made = c.in_ok-tree.ensures in
    let tree = c.in_ok-tree.tree in
    record {
      marks = start_marks tree made.empty made.splits;
      few = omega (arith, start_count tree (start_ids tree made.empty));
      thirds = omega (arith, made.room);
      whole = omega (arith, made.roots);
      known = omega (arith, made.roots, c.requires.spaces);
      small = omega (arith, made.room, c.requires.frames);
    }

pub returns-clause-no_extent : goal.returns-clause-no_extent
returns-clause-no_extent c = start_ids c.in_ok-tree.tree c.in_ok-tree.ensures.empty

pub returns-clause-no_page : goal.returns-clause-no_page
returns-clause-no_page c =
    let made = c.in_ok-tree.ensures in
    let tree = c.in_ok-tree.tree in
    start_pages tree (start_ids tree made.empty) (start_marks tree made.empty made.splits)

pub returns-clause-count : goal.returns-clause-count
returns-clause-count c = start_count c.in_ok-tree.tree (start_ids c.in_ok-tree.tree c.in_ok-tree.ensures.empty)
