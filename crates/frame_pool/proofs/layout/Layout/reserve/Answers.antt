use Rattle.std.proofs.Common.{option_map, refl, sym, ap, ◌∙◌, arith}
use Rattle.pager_model.specs.Layouts.{populated, placing_in, preferred_in, reserved, largest_extent}
use Rattle.pager_laws.specs.Laid.{IsLaid}
use Rattle.frame_pool.specs.LayoutState.{layout_in}
use Rattle.frame_pool.specs.Placed.{FindsExtent, with_reservation}
use Rattle.frame_pool.proofs.LayoutInOrder.{IsLaid-populated}
use Rattle.frame_pool.proofs.PlacingResult.{asked, PlacesPage-from, placing-covered, record_at-covered, HasPage-covered, unused_covered, round_page, IsLaid-added, PlacesPage-added}
use Rattle.frame_pool.proofs.layout.Layout.reserve.Goals as goal
use Rattle.frame_pool.proofs.layout.Layout.reserve.Goals.{After-extent_round-pages}

pub populate-frame-requires-clause-there : goal.populate-frame-requires-clause-there
populate-frame-requires-clause-there c =
    record_at-covered (layout_in c.self.inside) c.args.space c.args.page c.in-Some.reservation c.self.invariant.0 (sym c.in-Some.ensures)

pub populate-frame-requires-clause-has : goal.populate-frame-requires-clause-has
populate-frame-requires-clause-has c =
    HasPage-covered (layout_in c.self.inside) c.args.space c.args.page c.in-Some.reservation c.self.invariant.0 (sym c.in-Some.ensures)

pub populate-frame-requires-clause-unused : goal.populate-frame-requires-clause-unused
populate-frame-requires-clause-unused c =
    unused_covered (layout_in c.self.inside) c.args.space c.args.page c.in-Some.reservation c.self.invariant.0 (sym c.in-Some.ensures)
    (rw (← c.self.view_is) at c.requires.unplaced)

pub invariant_of-self : goal.invariant_of-self
invariant_of-self c =
    let l = layout_in c.self.inside in
    let r = c.in-Some.reservation in
    let laid = c.self.invariant.0 in
    let covers = sym c.in-Some.ensures in
    let unused = unused_covered l c.args.space c.args.page r laid covers (rw (← c.self.view_is) at c.requires.unplaced) in
    rw c.populate-frame.ensures.populated (
      IsLaid-populated l r c.args.stamp c.args.page laid (record_at-covered l c.args.space c.args.page r laid covers)
          (HasPage-covered l c.args.space c.args.page r laid covers) unused,
      c.self.invariant.1,
    )

pub returns-in-Some-clause-placed : goal.returns-in-Some-clause-placed
returns-in-Some-clause-placed c =
    let l = layout_in c.self.inside in
    let r = c.in-Some.reservation in
    let is = placing-covered l c.args.stamp c.args.space c.args.page c.args.want.now r (sym c.in-Some.ensures) in
    rw (c.populate-frame.ensures.populated, c.populate-frame.ensures.frame, ← c.self.view_is)
    (PlacesPage-from l (populated c.args.stamp c.args.page l r).layout c.args.stamp c.args.space c.args.page c.args.want.now
    (populated c.args.stamp c.args.page l r) c.self.invariant.0 (rw (← c.self.view_is) at c.requires.unplaced) is refl (omega arith))

pub put-frame-requires-clause-has : goal.put-frame-requires-clause-has
put-frame-requires-clause-has c =
    round_page c.in_ok-found.found.size c.args.page c.extent_round-pages.result.first c.extent_round-pages.ensures.first

-- the extent that was found is one of the layout, of the size that the page prefers
finds : (c : After-extent_round-pages)
    → FindsExtent c.largest_extent.new.self
    (largest_extent (preferred_in (layout_in c.self.inside) c.args.space c.args.page c.args.want.now) (layout_in c.self.inside))
    c.in_ok-found.found.size c.in_ok-found.found.first c.in_ok-found.found.broken
finds c = rw (← c.self.view_is, c.preferred-size.ensures) at c.in_ok-found.ensures.found

-- which is sound with the new reservation
laid_with : (c : After-extent_round-pages)
    → IsLaid (with_reservation
    (record {
      space = c.args.space;
      first = c.extent_round-pages.result.first;
      size = c.in_ok-found.found.size;
      frame = c.in_ok-found.found.first;
      stamp = c.args.stamp;
    }) c.args.page c.largest_extent.new.self)
laid_with c = rw c.extent_round-pages.ensures.first
    (IsLaid-added (layout_in c.self.inside) c.largest_extent.new.self c.args.stamp
    (asked c.args.space c.args.page c.args.want.now) c.in_ok-found.found
    (sym c.in_default.ensures) (finds c) c.self.invariant.0 (rw (← c.self.view_is) at c.requires.unplaced))

pub put-frame-requires-clause-laid : goal.put-frame-requires-clause-laid
put-frame-requires-clause-laid c =
    (c.self-2.inside.free, rw (← c.self-2.view_is) at (laid_with (goal.at.put-frame-requires-clause-laid c).After-extent_round-pages))

pub invariant_of-self-2 : goal.invariant_of-self-2
invariant_of-self-2 c =
    let laid = rw (← c.self-2.view_is) at (laid_with (goal.at.invariant_of-self-2 c).After-extent_round-pages) in
    rw c.put-frame.ensures.put (laid, c.self-2.invariant.1)

pub returns-clause-placed : goal.returns-clause-placed
returns-clause-placed c =
    let found = rw (← c.self-2.view_is) at (finds (goal.at.returns-clause-placed c).After-extent_round-pages) in
    rw (c.put-frame.ensures.put, c.put-frame.ensures.frame, ← c.self.view_is, c.extent_round-pages.ensures.first)
    (PlacesPage-added (layout_in c.self.inside) (layout_in c.self-2.inside) c.args.stamp
    (asked c.args.space c.args.page c.args.want.now) c.in_ok-found.found
    (sym c.in_default.ensures) found c.self.invariant.0 (rw (← c.self.view_is) at c.requires.unplaced))

pub returns-in_err-found-clause-none : goal.returns-in_err-found-clause-none
returns-in_err-found-clause-none c =
    let l = layout_in c.self.inside in
    let none = rw (← c.self.view_is) at c.in_err-found.ensures.none in
    rw (c.from_residual.ensures, ← c.self.view_is) (
      ap (placing_in c.args.stamp c.args.space c.args.page c.args.want.now l) (sym c.in_default.ensures)
          ∙ ap (option_map (reserved c.args.stamp c.args.space c.args.page))
          (ap (λ k. largest_extent k l) (sym c.preferred-size.ensures) ∙ none.0),
      none.1,
    )

pub put-frame-requires-clause-few : goal.put-frame-requires-clause-few
put-frame-requires-clause-few c = c.requires.few

pub put-frame-requires-clause-placed : goal.put-frame-requires-clause-placed
put-frame-requires-clause-placed c =
    let found = rw (← c.self-2.view_is) at c.in_ok-found.ensures.found in
    record {
      named = refl;
      aligned = found.aligned;
      within = omega (arith, found.known, c.self-2.invariant.0.records_long);
      pages_aligned = (found.aligned.0, c.extent_round-pages.ensures.aligned);
    }

pub returns-in_err-found-clause-placed : goal.returns-in_err-found-clause-placed
returns-in_err-found-clause-placed c = rw c.from_residual.ensures tt
