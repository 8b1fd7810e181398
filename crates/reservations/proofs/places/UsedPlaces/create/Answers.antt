use Rattle.std.proofs.Common.{◌≡◌, false, replicate, arith}
use Rattle.reservations.proofs.CountLemmas.{AreCounts-none}
use Rattle.reservations.proofs.places.UsedPlaces.create.Goals as goal

pub invariant_of-result : goal.invariant_of-result
invariant_of-result c =
    let frames = c.args.frames in
    let used : c.in_ok-vec.field-0.items ≡ replicate frames false = c.in_ok-vec.ensures.items_if_clones_equal (λ y same. same) in
    rw (used, c.in_ok-zeros.ensures, c.in_ok-zeros-2.ensures, c.in_ok-zeros-3.ensures)
    (AreCounts-none frames 8 (omega arith), AreCounts-none frames 64 (omega arith), AreCounts-none frames 512 (omega arith))
