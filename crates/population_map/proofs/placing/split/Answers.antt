use Rattle.std.proofs.Common.{is_some, ap, ◌∙◌, arith}
use Rattle.population_map.proofs.Placings.{same_count}
use Rattle.population_map.proofs.Splittings.{Splits, WasSplit, split_extent, split_count, split_room}
use Rattle.population_map.proofs.placing.split.Goals as goal
use Rattle.population_map.proofs.placing.split.Goals.{After-evict_all, After-split}
use Rattle.population_map.proofs.placing.split.Given.{Over}

-- what the split begins with
splits : (g : Over) (c : After-split g) → Splits c.evict_all.new.tree c.args.size c.args.first c.marks_from-marks.result c.args.ids.now
splits g c = record {
  marks = c.evict_all.ensures.marks;
  large = c.requires.size;
  small = c.requires.aligned.0;
  placed = ap is_some (c.evict_all.ensures.ids c.args.size c.args.first c.requires.aligned.0) ∙ c.requires.placed;
  empty = c.evict_all.ensures.empty.emptied;
  told = c.marks_from-marks.ensures;
}

done : (g : Over) (c : After-split g) → WasSplit c.evict_all.new.tree c.split.new.self c.args.size c.args.first c.args.ids.now
done g c = split_extent c.evict_all.new.tree c.split.new.self c.args.size c.args.first c.marks_from-marks.result c.args.ids.now
    (splits g c) c.split.ensures.rows c.split.ensures.splits

pub evict_all-requires-clause-marks : goal.evict_all-requires-clause-marks
evict_all-requires-clause-marks g c = c.requires.marks

pub evict_all-requires-clause-page : goal.evict_all-requires-clause-page
evict_all-requires-clause-page g c = c.requires.page

pub evict_all-requires-clause-known : goal.evict_all-requires-clause-known
evict_all-requires-clause-known g c = c.requires.known

pub evict_all-requires-clause-aligned : goal.evict_all-requires-clause-aligned
evict_all-requires-clause-aligned g c = c.requires.aligned

pub evict_all-requires-clause-placed : goal.evict_all-requires-clause-placed
evict_all-requires-clause-placed g c = c.requires.placed

pub evict_all-requires-clause-room : goal.evict_all-requires-clause-room
evict_all-requires-clause-room g c = c.requires.room

pub marks_from-marks-requires : goal.marks_from-marks-requires
marks_from-marks-requires g c = c.requires.ids

pub split-requires-clause-size : goal.split-requires-clause-size
split-requires-clause-size g c = c.requires.size

pub split-requires-clause-page : goal.split-requires-clause-page
split-requires-clause-page g c = omega (arith, c.requires.page, c.evict_all.ensures.room.roots)

pub split-requires-clause-room : goal.split-requires-clause-room
split-requires-clause-room g c =
    let was = c.evict_all.ensures in
    split_room c.evict_all.new.tree c.args.size c.args.first was.marks c.requires.aligned.0
    (ap is_some (was.ids c.args.size c.args.first c.requires.aligned.0) ∙ c.requires.placed)
    (omega (arith, c.requires.room, was.room.room, same_count c.args.tree.now c.evict_all.new.tree was.room.roots was.ids))

pub returns-clause-marks : goal.returns-clause-marks
returns-clause-marks g c = (done g (goal.at.returns-clause-marks g c).After-split).marks

pub returns-clause-placed : goal.returns-clause-placed
returns-clause-placed g c =
    let d = done g (goal.at.returns-clause-placed g c).After-split in
    record {
      whole = d.placed.whole;
      parts = d.placed.parts;
      others = λ part other less apart. d.placed.others part other less apart ∙ c.evict_all.ensures.ids part other less;
    }

pub returns-clause-empty : goal.returns-clause-empty
returns-clause-empty g c =
    let d = done g (goal.at.returns-clause-empty g c).After-split in
    record {
      emptied = d.empty.emptied;
      others = λ other apart. d.empty.others other apart ∙ c.evict_all.ensures.empty.others other apart;
    }

pub returns-clause-count : goal.returns-clause-count
returns-clause-count g c =
    let was = c.evict_all.ensures in
    split_count c.evict_all.new.tree c.split.new.self c.args.size c.args.first c.marks_from-marks.result c.args.ids.now
    (splits g (goal.at.returns-clause-count g c).After-split) c.split.ensures.rows c.split.ensures.splits (omega arith)
    ∙ same_count c.args.tree.now c.evict_all.new.tree was.room.roots was.ids
