use Rattle.std.proofs.Common.{◌≡◌, ◌+◌, ◌-◌, ◌*◌, ◌/◌, Some, arith, ap, sym, ◌∙◌}
use Rattle.pager_model.specs.declared.reservation.Reservation.{Reservation}
use Rattle.pager_model.specs.Records.{part_of}
use Rattle.pager_model.proofs.ExtentLemmas.{eight_pos, part_of_eight, aligned_end}
use Rattle.frame_pool.proofs.ListsByFrame.{HasParts-more, HasParts-skip, part_unlisted, split_from, AreListed-alone}
use Rattle.frame_pool.proofs.PartRecords.{eighth}
use Rattle.frame_pool.proofs.lists.enlist_parts.Goals as goal
use Rattle.frame_pool.proofs.lists.enlist_parts.Goals.{After-get, in-Some, in_default}

pub returns-then-level-eq1-clause-listed : goal.returns-then-level-eq1-clause-listed
returns-then-level-eq1-clause-listed c =
    AreListed-alone (split_from c.args.sizes c.args.lists.now c.args.reservations.now c.args.whole.now) c.requires.split (omega arith)

pub overflow_add-first : goal.overflow_add-first
overflow_add-first c =
    let r = c.args.whole.now in
    let placed = c.requires.split.placed in
    let pages = eighth c.pages-pages.result r.size c.requires.splits c.pages-pages.ensures in
    let ends = part_of_eight c.loop-i.i r.size c.requires.splits c.loop-i-test.true in
    let last = aligned_end r.size r.frame placed.aligned.0 placed.aligned.1 (omega arith) in
    rw pages (omega (arith, ends, last, eight_pos (r.size - 1)))

-- the place that is looked at is the part's
at_part : (c : After-get) → c.args.whole.now.frame + c.loop-i.i * (c.pages-pages.result / 8) ≡ (part_of c.args.whole.now c.loop-i.i).frame
at_part c = ap (λ n. c.args.whole.now.frame + c.loop-i.i * n)
    (eighth c.pages-pages.result c.args.whole.now.size c.requires.splits c.pages-pages.ensures)

-- and the part that is found begins there
begins : (c : After-get) (part : Reservation) → c.get.result ≡ Some part → part.frame ≡ (part_of c.args.whole.now c.loop-i.i).frame
begins c part is = (rw is at c.get.ensures.placed).named ∙ at_part c

pub enlist-requires-clause-unlisted : goal.enlist-requires-clause-unlisted
enlist-requires-clause-unlisted c =
    let s = split_from c.args.sizes c.args.lists.now c.args.reservations.now c.args.whole.now in
    rw (begins (goal.at.enlist-requires-clause-unlisted c).After-get c.in-Some.part c.in-Some.is)
    (part_unlisted s c.loop-i.i c.loop-i.lists c.requires.splits c.loop-i-test.true c.loop-i.invariant)

pub loop-i-preserved : goal.loop-i-preserved
loop-i-preserved c =
    let i = c.loop-i.i in
    let s = split_from c.args.sizes c.args.lists.now c.args.reservations.now c.args.whole.now in
    let lists = c.loop-i.lists in
    let splits = c.requires.splits in
    let small = c.loop-i-test.true in
    let has = c.loop-i.invariant in
    let w = (goal.at.loop-i-preserved c).After-get in
    let at = at_part w in
    elim c.match-get.branch [
      | in-Some t ↦ rw t.lists-is (HasParts-more s i lists splits small has t.enlist.new.lists t.in-Some.part (begins w t.in-Some.part t.in-Some.is)
          (rw at at (sym c.get.ensures.record ∙ t.in-Some.is)) t.enlist.ensures.listed t.enlist.ensures.room)
      | in_default t ↦ rw t.lists-is (HasParts-skip s i lists splits small has (rw at at (sym c.get.ensures.record ∙ t.in_default.is)))
    ]
