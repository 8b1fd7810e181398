use Rattle.std.proofs.Common.{◌≡◌, Some, length, set, arith, refl, ap, ◌∙◌, true}
use Rattle.std.proofs.lemmas.List.{length-set}
use Rattle.pager_model.specs.Layouts.{frame_for}
use Rattle.pager_model.specs.Agreement.{has_frame}
use Rattle.pager_model.specs.RecordPlaces.{IsPlaced}
use Rattle.reservations.proofs.FrameIds.{AreKept-add, unused_if_free, whole_slice}
use Rattle.pager_model.proofs.RecordFrames.{has_frame_from}
use Rattle.reservations.proofs.Reservations.add.Goals as goal

pub insert-requires-clause-unused : goal.insert-requires-clause-unused
insert-requires-clause-unused c =
    let r = c.args.reservation in
    let place = frame_for c.args.page r in
    let has : has_frame place (Some r) ≡ true = has_frame_from place r (omega arith)
    (omega (arith, c.requires.page.0, c.requires.page.1)) in
    let apart = rw (← c.self.view_is) at c.requires.apart in
    rw c.frame_for-place.ensures (unused_if_free _ _ _ place c.self.invariant.0 (λ j. apart place j has))

pub invariant_of-self : goal.invariant_of-self
invariant_of-self c =
    let r = c.args.reservation in
    let place = frame_for c.args.page r in
    let has : has_frame place (Some r) ≡ true = has_frame_from place r (omega arith)
    (omega (arith, c.requires.page.0, c.requires.page.1)) in
    let apart = rw (← c.self.view_is) at c.requires.apart in
    let known = rw (← c.self.view_is) at c.requires.known in
    let placed : IsPlaced (length c.self.inside.records.items) r.frame r =
    record { named = refl; aligned = c.requires.frames; within = known; pages_aligned = c.requires.pages } in
    let filled = rw c.as_mut_slice-2.ensures.value at c.write.ensures.ids in
    let noted = c.write.ensures.records ∙ ap (λ rs. set rs r.frame (Some r)) c.as_mut_slice.ensures.value in
    let ids_long : length c.write.new.ids ≡ length c.self.inside.ids.items =
    omega (arith, c.write.auto.ids, c.as_mut_slice-2.ensures.len, c.self.inside.ids.ok.0) in
    rw (
      whole_slice c.self.inside.records.len c.write.new.records c.self.inside.records.items
          (omega (arith, c.write.auto.records, c.as_mut_slice.ensures.len)),
      whole_slice c.self.inside.ids.len c.write.new.ids c.self.inside.ids.items
          (omega (arith, c.write.auto.ids, c.as_mut_slice-2.ensures.len)),
      noted,
      c.insert.ensures,
      c.frame_for-place.ensures,
    )
    (AreKept-add _ _ _ _ r place c.self.invariant.0 placed apart has filled ids_long, rw length-set c.self.invariant.1)
