use Rattle.std.proofs.Common.{◌∙◌, ◌<◌, true, false, length, sym, arith}
use Rattle.std.proofs.lemmas.Bool.{false≢true}
use Rattle.std.proofs.lemmas.List.{length-replicate}
use Rattle.pager_model.specs.Layouts.{frame_for}
use Rattle.pager_model.proofs.ExtentLemmas.{eight_pos}
use Rattle.pager_model.proofs.RecordFrames.{has_frame_from}
use Rattle.reservations.proofs.FrameIds.{none_begins}
use Rattle.frame_pool.specs.ReservedState.{reserved_in}
use Rattle.frame_pool.proofs.LayoutInOrder.{AreListed-used, place_has}
use Rattle.frame_pool.proofs.LayoutMapped.{MayEnter-added}
use Rattle.frame_pool.proofs.ReservedLayouts.{IsLaid-with}
use Rattle.frame_pool.proofs.UnlistedFrames.{is_listed-none}
use Rattle.frame_pool.proofs.reserved.Reserved.put.Goals as goal

pub enlist-requires-clause-unlisted : goal.enlist-requires-clause-unlisted
enlist-requires-clause-unlisted c =
    let r = c.args.reservation in
    let inside = c.self.inside in
    let was = c.self.invariant in
    let apart = rw (← c.self.view_is) at c.requires.apart in
    let none = none_begins inside.reservations.records r.frame was.laid.placed
    (apart r.frame r.frame (has_frame_from r.frame r (omega arith) (omega (arith, eight_pos r.size)))) in
    is_listed-none inside.sizes inside.lists.lists inside.reservations.used inside.reservations.records r.frame was.listed was.laid.placed none

pub insert-requires : goal.insert-requires
insert-requires c =
    let r = c.args.reservation in
    let l = reserved_in c.self.inside in
    let was = c.self.invariant in
    let apart = rw (← c.self.view_is) at c.requires.apart in
    let laid = rw (← c.self.view_is) at c.requires.laid in
    let placed = rw (← c.self.view_is) at c.requires.placed in (
      l.records,
      was.mapped,
      MayEnter-added l r c.args.page was.laid placed c.requires.few c.requires.within apart
          (IsLaid-with l r c.args.page c.self.inside.lists.frames was.laid was.known laid.0 laid.1),
    )

pub invariant_of-self : goal.invariant_of-self
invariant_of-self c =
    let r = c.args.reservation in
    let inside = c.self.inside in
    let l = reserved_in inside in
    let was = c.self.invariant in
    let apart = rw (← c.self.view_is) at c.requires.apart in
    let sound = rw (← c.self.view_is) at c.requires.laid in
    let placed = rw (← c.self.view_is) at c.requires.placed in
    let laid = IsLaid-with l r c.args.page inside.lists.frames was.laid was.known sound.0 sound.1 in
    let none = none_begins l.records r.frame was.laid.placed (apart r.frame r.frame
    (has_frame_from r.frame r (omega arith) (omega (arith, eight_pos r.size)))) in
    let place = frame_for c.args.page r in
    let listed = AreListed-used l.sizes inside.lists.lists l.used l.records place true was.listed
    (λ id has. false≢true (sym (apart place id (place_has r c.args.page c.requires.has)) ∙ has)) in
    let known : r.frame < length l.records = omega (arith, placed.within, eight_pos r.size) in
    let enlists = rw c.add.ensures at c.enlist.ensures.listed in
    rw c.add.ensures (record {
      known = length-replicate c.enlist.new.lists.frames false;
      few = omega (arith, c.enlist.ensures.room, was.few);
      laid = IsLaid-with l r c.args.page c.enlist.new.lists.frames was.laid (was.known ∙ sym c.enlist.ensures.room) sound.0 sound.1;
      listed = enlists l.records (record { none = none; known = known; listed = listed });
      mapped = c.insert.ensures l.records was.mapped
          (MayEnter-added l r c.args.page was.laid placed c.requires.few c.requires.within apart laid);
    })
