use Rattle.std.proofs.Common.{◌≡◌, arith}
use Rattle.frame_pool.specs.ReservedState.{reserved_in}
use Rattle.frame_pool.proofs.PlacingResult.{record_at-covered, HasPage-covered}
use Rattle.frame_pool.proofs.PlacelessPages.{placeless_in, placed_in}
use Rattle.frame_pool.proofs.reserved.Reserved.unused_from.Goals as goal

pub frame_for-frame-requires-clause-page : goal.frame_for-frame-requires-clause-page
frame_for-frame-requires-clause-page c =
    HasPage-covered (reserved_in c.self.inside) c.args.space c.args.page c.args.reservation.now c.self.invariant.laid
    (rw (← c.self.view_is) at c.requires)

pub frame_for-frame-requires-clause-frames : goal.frame_for-frame-requires-clause-frames
frame_for-frame-requires-clause-frames c =
    let l = reserved_in c.self.inside in
    let r = c.args.reservation.now in
    let laid = c.self.invariant.laid in
    (laid.placed r.frame r (record_at-covered l c.args.space c.args.page r laid (rw (← c.self.view_is) at c.requires))).aligned

pub unused_from-unused-requires : goal.unused_from-unused-requires
unused_from-unused-requires c =
    let l = reserved_in c.self.inside in
    let r = c.args.reservation.now in
    let laid = c.self.invariant.laid in
    let found = rw (← c.self.view_is) at c.requires in
    let has = HasPage-covered l c.args.space c.args.page r laid found in
    let placed = laid.placed r.frame r (record_at-covered l c.args.space c.args.page r laid found) in
    omega (arith, has, placed.within, c.frame_for-frame.ensures)

pub left_in-requires : goal.left_in-requires
left_in-requires c =
    HasPage-covered (reserved_in c.self.inside) c.args.space c.args.page c.args.reservation.now c.self.invariant.laid
    (rw (← c.self.view_is) at c.requires)

pub returns-clause-placed : goal.returns-clause-placed
returns-clause-placed c = λ zero.
    let l = reserved_in c.self.inside in
    let r = c.args.reservation.now in
    let found = rw (← c.self.view_is) at c.requires in
    let has = HasPage-covered l c.args.space c.args.page r c.self.invariant.laid found in
    let none : c.unused_from-unused.result ≡ 0 = omega (arith, zero, has, c.min.ensures, c.left_in.ensures) in
    let used = c.unused_from-unused.ensures.used none in
    let place = rw c.frame_for-frame.ensures at used in
    rw (← c.self.view_is) (placed_in l c.args.space c.args.page r found place)

pub returns-clause-none : goal.returns-clause-none
returns-clause-none c =
    let l = reserved_in c.self.inside in
    let r = c.args.reservation.now in
    let found = rw (← c.self.view_is) at c.requires in
    let unused = rw c.frame_for-frame.ensures at c.unused_from-unused.ensures.unused in
    rw (← c.self.view_is)
    (placeless_in l c.args.space c.args.page c.min.result r c.self.invariant.laid found
    (λ f low high. unused f low (omega (arith, high, c.min.ensures)))
    (omega (arith, c.min.ensures, c.left_in.ensures)))
