use Rattle.std.proofs.Common.{◌≡◌, ◌*◌, ◌/◌, ◌%◌, ◌≤◌, ℕ, is_some, true, ap, refl, subst, ◌∙◌, arith}
use Rattle.std.specs.List.{range_with_len, count_by}
use Rattle.extent_tree.specs.Rows.{Arena, row, ChangesOnly}
use Rattle.extent_tree.specs.Counts.{splits_with}
use Rattle.extent_tree.proofs.Rooms.{RowsIn, room_for}
use Rattle.population_map.specs.declared.mark.Mark.{Mark}
use Rattle.population_map.specs.declared.way.Way.{Way}
use Rattle.population_map.specs.Kept.{AreMarks, IsCarried, kept}
use Rattle.population_map.specs.Bits.{WithBit}
use Rattle.population_map.specs.Populations.{is_placed, placed_pages}
use Rattle.population_map.proofs.Marks.{rows_placed}
use Rattle.population_map.proofs.Ways.{Asks, ChangesPage, way_written, rows_in_after, marks_after, populates, may_go}
use Rattle.population_map.proofs.way.change.Goals as goal
use Rattle.population_map.proofs.way.change.Goals.{After-at_level, After-write, After-write-2, After-write-3}
use Rattle.population_map.proofs.way.change.Given.{Over}

-- the marks that are written
abbrev way : (g : Over) (c : After-at_level g) → Way
way g c = record { small = c.with_page-small.result; middle = c.with_part-middle.result; large = c.with_part-large.result }

asks : (g : Over) (c : After-at_level g) → Asks c.args.tree.now c.args.page c.args.is_in (way g c)
asks g c = record {
  small_id = c.with_page-small.ensures.id ∙ ap (λ v. v.id) c.read-way.ensures.small;
  small_some = subst (λ v. WithBit v.some c.with_page-small.result.some
      (c.args.page % 8) c.args.is_in) c.read-way.ensures.small c.with_page-small.ensures.some;
  small_full = c.with_page-small.ensures.full;
  middle_is = subst (λ v. IsCarried v c.with_part-middle.result
      (c.args.page / 8 % 8) c.with_page-small.result) c.read-way.ensures.middle c.with_part-middle.ensures;
  large_is = subst (λ v. IsCarried v c.with_part-large.result
      (c.args.page / 64 % 8) c.with_part-middle.result) c.read-way.ensures.large c.with_part-large.ensures;
}

-- the rows at first are round placed pages
rows : (m : Arena Mark) → AreMarks m → RowsIn m (is_placed m)
rows m marks = record { splits = marks.splits; pages = rows_placed m marks }

-- and there is room where they are
room : (m n : Arena Mark) (size page : ℕ) → 3 * placed_pages m ≤ m.room → n.roots ≡ m.roots → n.room ≡ m.room → RowsIn n (is_placed m)
    → is_placed m page ≡ true → splits_with n size page ≤ n.room
unfolding placed_pages
room m n size page enough roots same rows_of placed =
    omega (arith, room_for n (is_placed m) size page rows_of placed, ap (λ r. count_by (is_placed m) (range_with_len 0 (512 * r))) roots)

pub write-requires-clause-room : goal.write-requires-clause-room
write-requires-clause-room g c =
    room c.args.tree.now c.args.tree.now c.at_level.result c.args.page c.requires.room refl refl
    (rows c.args.tree.now c.requires.marks) c.requires.placed

pub write-requires-clause-row : goal.write-requires-clause-row
write-requires-clause-row g c none =
    let at = (goal.at.write-requires-clause-row g c).After-at_level in
    ap (λ k. is_some (row c.args.tree.now k c.args.page)) c.at_level.ensures
    ∙ (may_go c.args.tree.now c.args.page c.args.is_in (way g at) c.requires.marks c.requires.before (asks g at)).0 none

first : (g : Over) (c : After-write g) → ChangesOnly c.args.tree.now c.write.new.tree 1 c.args.page (kept c.with_page-small.result)
first g c = subst (λ k. ChangesOnly c.args.tree.now c.write.new.tree k c.args.page
    (kept c.with_page-small.result)) c.at_level.ensures c.write.ensures.row

rows_first : (g : Over) (c : After-write g) → RowsIn c.write.new.tree (is_placed c.args.tree.now)
rows_first g c = rows_in_after c.args.tree.now c.write.new.tree 1 c.args.page (kept c.with_page-small.result) (is_placed c.args.tree.now)
    (rows c.args.tree.now c.requires.marks) (first g c) c.write.ensures.splits c.requires.placed

pub write-requires-2-clause-room : goal.write-requires-2-clause-room
write-requires-2-clause-room g c =
    let w = (goal.at.write-requires-2-clause-room g c).After-write in
    room c.args.tree.now c.write.new.tree c.at_level-2.result c.args.page c.requires.room c.write.ensures.row.roots c.write.ensures.row.room (rows_first g w) c.requires.placed

pub write-requires-2-clause-row : goal.write-requires-2-clause-row
write-requires-2-clause-row g c none =
    let at = goal.at.write-requires-2-clause-row g c in
    ap (λ k. is_some (row c.write.new.tree k c.args.page)) c.at_level-2.ensures
    ∙ (ap is_some ((first g at.After-write).others 2 c.args.page (omega arith) (λ e _. absurd (omega (arith, e))))
    ∙ (may_go c.args.tree.now c.args.page c.args.is_in (way g at.After-at_level) c.requires.marks c.requires.before
    (asks g at.After-at_level)).1 none)

second : (g : Over) (c : After-write-2 g) → ChangesOnly c.write.new.tree c.write-2.new.tree 2 c.args.page (kept c.with_part-middle.result)
second g c = subst (λ k. ChangesOnly c.write.new.tree c.write-2.new.tree k c.args.page
    (kept c.with_part-middle.result)) c.at_level-2.ensures c.write-2.ensures.row

pub write-requires-3-clause-room : goal.write-requires-3-clause-room
write-requires-3-clause-room g c =
    let at = goal.at.write-requires-3-clause-room g c in
    room c.args.tree.now c.write-2.new.tree c.at_level-3.result c.args.page c.requires.room
    (c.write-2.ensures.row.roots ∙ c.write.ensures.row.roots) (c.write-2.ensures.row.room ∙ c.write.ensures.row.room)
    (rows_in_after c.write.new.tree c.write-2.new.tree 2 c.args.page (kept c.with_part-middle.result) (is_placed c.args.tree.now)
    (rows_first g at.After-write) (second g at.After-write-2) c.write-2.ensures.splits c.requires.placed) c.requires.placed

pub write-requires-3-clause-row : goal.write-requires-3-clause-row
write-requires-3-clause-row g c none =
    let at = goal.at.write-requires-3-clause-row g c in
    ap (λ k. is_some (row c.write-2.new.tree k c.args.page)) c.at_level-3.ensures
    ∙ (ap is_some ((second g at.After-write-2).others 3 c.args.page (omega arith) (λ e _. absurd (omega (arith, e))))
    ∙ (ap is_some ((first g at.After-write).others 3 c.args.page (omega arith) (λ e _. absurd (omega (arith, e))))
    ∙ (may_go c.args.tree.now c.args.page c.args.is_in (way g at.After-at_level) c.requires.marks c.requires.before
    (asks g at.After-at_level)).2 none))

-- what the three writes do
changes : (g : Over) (c : After-write-3 g)
    → ChangesPage c.args.tree.now c.write-3.new.tree c.args.page c.args.is_in (way g (goal.at.After-write-3 g c).After-at_level)
changes g c =
    let at = goal.at.After-write-3 g c in
    record {
      writes = way_written c.args.tree.now c.write.new.tree c.write-2.new.tree c.write-3.new.tree c.args.page (way g at.After-at_level)
          (first g at.After-write) (second g at.After-write-2)
          (subst (λ k. ChangesOnly c.write-2.new.tree c.write-3.new.tree k c.args.page
          (kept c.with_part-large.result)) c.at_level-3.ensures c.write-3.ensures.row) c.write-3.ensures.splits;
      asks = asks g at.After-at_level;
    }

pub returns-clause-marks : goal.returns-clause-marks
returns-clause-marks g c =
    let at = goal.at.returns-clause-marks g c in
    marks_after c.args.tree.now c.write-3.new.tree c.args.page c.args.is_in (way g at.After-at_level) c.requires.marks c.requires.placed
    (changes g at.After-write-3)

pub returns-clause-populated : goal.returns-clause-populated
returns-clause-populated g c =
    let at = goal.at.returns-clause-populated g c in
    populates c.args.tree.now c.write-3.new.tree c.args.page c.args.is_in (way g at.After-at_level) (changes g at.After-write-3)
