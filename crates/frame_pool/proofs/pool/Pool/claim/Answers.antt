use Rattle.std.proofs.Common.{refl, sym, ◌∙◌, arith}
use Rattle.pager_model.specs.FrameStates.{layout_of, IsVictim}
use Rattle.frame_pool.specs.PoolState.{state_of}
use Rattle.frame_pool.proofs.LayoutInOrder.{reservation_is}
use Rattle.pager_laws.proofs.StateSoundness.{is_used-layout_of, used_if_noted}
use Rattle.pager_laws.proofs.Owners.{unclaimed_place}
use Rattle.frame_pool.proofs.PoolFields.{noted_evictable, page_of, IsPool-claimed}
use Rattle.frame_pool.proofs.pool.Pool.claim.Goals as goal

pub unwrap-reservation-requires : goal.unwrap-reservation-requires
unwrap-reservation-requires c =
    let st = state_of c.self.inside in
    let noted = noted_evictable st c.in-Some.frame c.in-Some.ensures.found.evictable in
    reservation_is (layout_of st) c.in-Some.frame c.reservation_of.result c.self.invariant.sound.laid
    (used_if_noted st c.in-Some.frame noted) c.reservation_of.ensures.none

pub claim-requires-clause-used : goal.claim-requires-clause-used
claim-requires-clause-used c =
    let st = state_of c.self.inside in
    let noted = noted_evictable st c.in-Some.frame c.in-Some.ensures.found.evictable in
    sym (is_used-layout_of st c.in-Some.frame) ∙ used_if_noted st c.in-Some.frame noted

pub claim-requires-clause-unclaimed : goal.claim-requires-clause-unclaimed
claim-requires-clause-unclaimed c = unclaimed_place _ c.in-Some.ensures.found.evictable

pub claim-requires-clause-known : goal.claim-requires-clause-known
claim-requires-clause-known c = omega (arith, rw (← c.self.view_is) at c.requires.known, c.self.invariant.claimers_known)

pub claim-requires-clause-nothing : goal.claim-requires-clause-nothing
claim-requires-clause-nothing c = (rw (← c.self.view_is) at c.requires.nothing).claims_none

pub invariant_of-self : goal.invariant_of-self
invariant_of-self c =
    let known = rw (← c.self.view_is) at c.requires.known in
    let nothing = rw (← c.self.view_is) at c.requires.nothing in
    rw c.claim.ensures (IsPool-claimed _ _ _
    (state_of c.self.inside) c.in-Some.frame c.args.processor c.self.invariant known nothing c.in-Some.ensures.found.evictable)

pub page_at-requires-clause-pages : goal.page_at-requires-clause-pages
page_at-requires-clause-pages c =
    let r = c.unwrap-reservation.result in
    let owns = rw c.unwrap-reservation.ensures at c.reservation_of.ensures.found in
    (c.self.invariant.sound.laid.placed r.frame r owns.0).pages_aligned

pub returns-clause-claimed : goal.returns-clause-claimed
returns-clause-claimed c =
    let st = state_of c.self.inside in
    let least = c.in-Some.ensures.found in
    let frame = c.in-Some.frame in
    let noted = noted_evictable st frame least.evictable in
    let owns = rw c.unwrap-reservation.ensures at c.reservation_of.ensures.found in
    let victim : IsVictim st c.unwrap-reservation.result.space c.page_at.result frame = record {
      place = page_of st frame c.page_at.result c.unwrap-reservation.result c.self.invariant.sound.laid owns.0 noted c.page_at.ensures;
      evictable = least.evictable;
      least = least.least;
    } in
    (rw (← c.self.view_is) victim, rw (c.claim.ensures, ← c.self.view_is) refl)
