use Rattle.std.proofs.Common.{◌≡◌, Some, true, arith, refl, sym, ◌∙◌}
use Rattle.std.proofs.lemmas.List.{length-set}
use Rattle.pager_model.specs.Layouts.{frame_for}
use Rattle.pager_model.specs.Agreement.{has_frame}
use Rattle.pager_model.specs.Layouts.{stamped}
use Rattle.reservations.specs.Kept.{reservation_at}
use Rattle.reservations.proofs.FrameIds.{AreKept-populate}
use Rattle.pager_model.proofs.RecordFrames.{has_frame_from}
use Rattle.reservations.proofs.Reservations.populate.Goals as goal

pub invariant_of-self : goal.invariant_of-self
invariant_of-self c =
    let r = c.unwrap-reservation.result in
    let found : reservation_at c.args.self.now c.args.id ≡ Some r = sym c.get.ensures.record ∙ c.unwrap-reservation.ensures in
    let is = rw (← c.self.view_is) at found in
    let has_place = rw found at c.requires in
    let has : has_frame (frame_for c.args.page r) (Some r) ≡ true =
    has_frame_from (frame_for c.args.page r) r (omega arith) (omega (arith, has_place.0.0, has_place.0.1)) in
    rw (c.insert.ensures, c.frame_for.ensures, c.of.ensures) (
      AreKept-populate _ _ _ c.args.id r c.self.invariant.0 is (stamped r c.args.stamp) (frame_for c.args.page r) refl refl refl has,
      rw length-set c.self.invariant.1,
    )
