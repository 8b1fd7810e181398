use Rattle.std.proofs.Common.{◌≡◌, None, replicate, rules, arith}
use Rattle.std.proofs.lemmas.List.{length-replicate}
use Rattle.reservations.proofs.FrameIds.{AreKept-none}
use Rattle.reservations.proofs.Reservations.create.Goals as goal

pub invariant_of-result : goal.invariant_of-result
invariant_of-result c =
    let frames = c.args.frames in
    let records : c.in_ok-vec.field-0.items ≡ replicate frames None = c.in_ok-vec.ensures.items_if_clones_equal (λ y same. search rules) in
    let ids : c.in_ok-vec-2.field-0.items ≡ replicate frames None = c.in_ok-vec-2.ensures.items_if_clones_equal (λ y same. search rules) in
    rw (records, ids, c.in_ok-create.ensures) (AreKept-none frames, rw length-replicate (omega arith))
