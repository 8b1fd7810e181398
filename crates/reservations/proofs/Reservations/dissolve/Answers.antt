use Rattle.std.proofs.Common.{◌≡◌, Some, None, length, set, arith, sym, ap, ◌∙◌}
use Rattle.std.proofs.lemmas.List.{length-set}
use Rattle.reservations.specs.Kept.{reservation_at}
use Rattle.reservations.proofs.FrameIds.{AreKept-dissolve, whole_slice}
use Rattle.reservations.proofs.Reservations.dissolve.Goals as goal

pub invariant_of-self : goal.invariant_of-self
invariant_of-self c =
    let r = c.unwrap-reservation.result in
    let found : reservation_at c.args.self.now c.args.id ≡ Some r = sym c.get.ensures.record ∙ c.unwrap-reservation.ensures in
    let is = rw (← c.self.view_is) at found in
    let none_of = rw found at c.requires in
    let none = rw (← c.self.view_is) at none_of in
    let filled = rw c.as_mut_slice-2.ensures.value at c.write.ensures.ids in
    let noted = c.write.ensures.records ∙ ap (λ rs. set rs c.args.id None) c.as_mut_slice.ensures.value in
    let ids_long : length c.write.new.ids ≡ length c.self.inside.ids.items =
    omega (arith, c.write.auto.ids, c.as_mut_slice-2.ensures.len, c.self.inside.ids.ok.0) in
    rw (
      whole_slice c.self.inside.records.len c.write.new.records c.self.inside.records.items
          (omega (arith, c.write.auto.records, c.as_mut_slice.ensures.len)),
      whole_slice c.self.inside.ids.len c.write.new.ids c.self.inside.ids.items
          (omega (arith, c.write.auto.ids, c.as_mut_slice-2.ensures.len)),
      noted,
    )
    (AreKept-dissolve _ _ _ _ c.args.id r c.self.invariant.0 is none filled ids_long, rw length-set c.self.invariant.1)
