use Rattle.std.proofs.Common.{◌≡◌, ℕ, cond, eqb, ◌&&◌, Some, None, sym, ap, subst, ◌∙◌, arith}
use Rattle.pager_model.specs.FrameStates.{FrameState, frame_of, give_page, layout_of}
use Rattle.frame_pool.specs.declared.pool.Pool.TheInside.{Inside}
use Rattle.pager_laws.specs.Laid.{IsLaid}
use Rattle.frame_pool.specs.PoolState.{state_of}
use Rattle.frame_pool.specs.Pooled.{IsPool}
use Rattle.pager_laws.proofs.PageMoves.{frame_of-give_page}
use Rattle.frame_pool.proofs.PoolFields.{frame_noted, give_page-is, giver_used, IsPool-given}
use Rattle.frame_pool.proofs.pool.Pool.give.Goals as goal

-- the page has no place then, and every other page keeps its own
places_given : (p : Inside) (space page frame : ℕ) → IsPool p.frames.items p.layout p.used.processors (state_of p) → (old new : FrameState)
    → state_of p ≡ old → frame_of old space page ≡ Some frame → new ≡ give_page old space page → (s q : ℕ)
    → frame_of new s q ≡ cond (eqb space s && eqb q page) None (frame_of old s q)
places_given p space page frame pool old new seen is given s q =
    let laid = subst (λ (st : FrameState). IsLaid (layout_of st)) seen pool.sound.laid in
    ap (λ (st : FrameState). frame_of st s q) given ∙ frame_of-give_page old space page frame laid is s q

pub remove-claim-requires : goal.remove-claim-requires
remove-claim-requires c =
    let p = c.self.inside in
    let n = c.number-number.result in
    let is : frame_of (state_of p) c.args.space c.args.page ≡ Some n = rw (← c.self.view_is) at c.requires
    ∙ ap Some (sym c.number-number.ensures) in
    frame_noted p c.args.space c.args.page n c.self.invariant is

pub vacate-requires : goal.vacate-requires
vacate-requires c =
    let p = c.self.inside in
    let n = c.number-number.result in
    let is : frame_of (state_of p) c.args.space c.args.page ≡ Some n = rw (← c.self.view_is) at c.requires
    ∙ ap Some (sym c.number-number.ensures) in
    giver_used p c.args.space c.args.page n c.self.invariant is

pub carve-requires : goal.carve-requires
carve-requires c =
    let p = c.self.inside in
    let n = c.number-number.result in
    let is : frame_of (state_of p) c.args.space c.args.page ≡ Some n = rw (← c.self.view_is) at c.requires
    ∙ ap Some (sym c.number-number.ensures) in
    giver_used p c.args.space c.args.page n c.self.invariant is

pub invariant_of-self : goal.invariant_of-self
invariant_of-self c =
    let p = c.self.inside in
    let n = c.number-number.result in
    let is : frame_of (state_of p) c.args.space c.args.page ≡ Some n = rw (← c.self.view_is) at c.requires
    ∙ ap Some (sym c.number-number.ensures) in
    let claims = sym c.in-None.is ∙ c.remove-claim.ensures.claimer in
    rw c.remove-claim.ensures.removed
    (IsPool-given p c.args.space c.args.page n c.self.invariant is None _ claims c.vacate.ensures c.args.frame
    (sym c.number-number.ensures))

pub index_mut-requires-in-Some : goal.index_mut-requires-in-Some
index_mut-requires-in-Some c =
    let p = c.self.inside in
    let claims = sym c.in-Some.is ∙ c.remove-claim.ensures.claimer in
    omega (arith, (c.self.invariant.sound.claims_known c.number-number.result c.in-Some.processor (sym claims)).0, p.held.ok.0)

pub invariant_of-self-in-Some : goal.invariant_of-self-in-Some
invariant_of-self-in-Some c =
    let p = c.self.inside in
    let n = c.number-number.result in
    let is : frame_of (state_of p) c.args.space c.args.page ≡ Some n = rw (← c.self.view_is) at c.requires
    ∙ ap Some (sym c.number-number.ensures) in
    let claims = sym c.in-Some.is ∙ c.remove-claim.ensures.claimer in
    rw c.remove-claim.ensures.removed (IsPool-given p c.args.space c.args.page n c.self.invariant is
    (Some c.in-Some.processor) _ claims c.carve.ensures c.args.frame (sym c.number-number.ensures))

pub returns-in-None-clause-given : goal.returns-in-None-clause-given
returns-in-None-clause-given c =
    let p = c.self.inside in
    let n = c.number-number.result in
    let is : frame_of (state_of p) c.args.space c.args.page ≡ Some n = rw (← c.self.view_is) at c.requires
    ∙ ap Some (sym c.number-number.ensures) in
    let claims = sym c.in-None.is ∙ c.remove-claim.ensures.claimer in
    rw c.remove-claim.ensures.removed (give_page-is p c.args.space c.args.page n c.self.invariant is None _ claims c.vacate.ensures)
    ∙ ap (λ (st : FrameState). give_page st c.args.space c.args.page) c.self.view_is

pub returns-in-Some-clause-given : goal.returns-in-Some-clause-given
returns-in-Some-clause-given c =
    let p = c.self.inside in
    let n = c.number-number.result in
    let is : frame_of (state_of p) c.args.space c.args.page ≡ Some n = rw (← c.self.view_is) at c.requires
    ∙ ap Some (sym c.number-number.ensures) in
    let claims = sym c.in-Some.is ∙ c.remove-claim.ensures.claimer in
    rw c.remove-claim.ensures.removed (give_page-is p c.args.space c.args.page n c.self.invariant is
    (Some c.in-Some.processor) _ claims c.carve.ensures)
    ∙ ap (λ (st : FrameState). give_page st c.args.space c.args.page) c.self.view_is

pub returns-in-None-clause-places : goal.returns-in-None-clause-places
returns-in-None-clause-places c =
    places_given c.self.inside c.args.space c.args.page c.args.frame.number c.self.invariant c.args.self.now _ c.self.view_is c.requires
    (returns-in-None-clause-given c)

pub returns-in-Some-clause-places : goal.returns-in-Some-clause-places
returns-in-Some-clause-places c =
    places_given c.self.inside c.args.space c.args.page c.args.frame.number c.self.invariant c.args.self.now _ c.self.view_is c.requires
    (returns-in-Some-clause-given c)
