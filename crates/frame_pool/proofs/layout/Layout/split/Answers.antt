use Rattle.std.proofs.Common.{◌≡◌, ◌-◌, subst, arith}
use Rattle.pager_model.specs.Layouts.{parted_free}
use Rattle.pager_model.specs.Records.{is_used}
use Rattle.pager_model.specs.RecordPlaces.{IsPlaced}
use Rattle.frame_pool.specs.LayoutState.{layout_in}
use Rattle.frame_pool.proofs.LayoutInOrder.{not_free_there}
use Rattle.pager_laws.proofs.LayoutSplit.{Settles-parted, placed_own}
use Rattle.frame_pool.proofs.layout.Layout.split.Goals as goal

pub give_parts-requires-clause-placed : goal.give_parts-requires-clause-placed
give_parts-requires-clause-placed c =
    let r = c.args.whole.now in
    let laid = c.self.invariant.0 in
    subst (λ n. IsPlaced n r.frame r) laid.records_long (placed_own (layout_in c.self.inside) r.frame r laid
    (rw (← c.self.view_is) at c.requires.stands))

pub give_parts-requires-clause-taken : goal.give_parts-requires-clause-taken
give_parts-requires-clause-taken c =
    not_free_there (layout_in c.self.inside) c.args.whole.now.frame c.args.whole.now c.self.invariant.0
    (rw (← c.self.view_is) at c.requires.stands)

pub invariant_of-self : goal.invariant_of-self
invariant_of-self c =
    let was = c.self.invariant in
    let r = c.args.whole.now in
    let l = layout_in c.self.inside in
    let free : c.give_parts.new.free ≡ parted_free (r.size - 1) (is_used l.used) r l.free = c.give_parts.ensures (is_used l.used)
    c.split-parts.ensures.parts in
    let settles = Settles-parted (r.size - 1) l r.frame r was.0 (rw (← c.self.view_is) at c.requires.stands) (omega arith) in
    rw (free, c.split-parts.ensures.split) (settles.laid, omega (arith, settles.long, was.1))
