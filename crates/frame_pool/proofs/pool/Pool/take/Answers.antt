use Rattle.std.proofs.Common.{◌≡◌, ℕ, ◌<◌, length, Some, None, false, is_some, sym, ap, subst, ◌∙◌, arith}
use Rattle.std.proofs.lemmas.Bool.{false≢true}
use Rattle.std.proofs.lemmas.Option.{none-some, same_Some}
use Rattle.pager_model.specs.FrameStates.{FrameState, layout_of, used_at, take_frame, IsFull}
use Rattle.pager_model.specs.Layouts.{placing}
use Rattle.frame_pool.specs.PoolState.{state_of}
use Rattle.frame_pool.specs.Pooled.{number_in}
use Rattle.pager_laws.proofs.LayoutPlacing.{full-placing}
use Rattle.frame_pool.proofs.PlacingResult.{asked}
use Rattle.frame_pool.proofs.PoolFields.{layout_of-pool, used_long, taking_of, take_frame-placed, state_taken-is, frame_known, frame_out, frame_there, nothing_noted, IsPool-taken}
use Rattle.frame_pool.proofs.pool.Pool.take.Goals as goal

pub unreachable-requires : goal.unreachable-requires
unreachable-requires c =
    let p = c.self.inside in
    let unplaced = rw (← c.self.view_is) at c.requires.unplaced in
    let none = ap (placing p.entries c.args.space c.args.page c.args.want.now) (layout_of-pool p c.self.invariant)
    ∙ c.in_default.ensures.none.0 in
    let full = full-placing
    (layout_of (state_of p)) p.entries c.args.space c.args.page c.args.want.now c.self.invariant.sound.laid unplaced none in
    false≢true (sym c.if-is_full.false ∙ c.is_full.ensures.1 (subst IsFull c.self.view_is full))

pub index_mut-requires : goal.index_mut-requires
index_mut-requires c =
    let p = c.self.inside in
    let a = asked c.args.space c.args.page c.args.want.now in
    let unplaced = rw (← c.self.view_is) at c.requires.unplaced in
    omega (
      arith,
      frame_known p a _ c.in-Some.place c.self.invariant unplaced c.in-Some.ensures.placed,
      p.frames.ok.0,
    )

pub unreachable-requires-in_default-take : goal.unreachable-requires-in_default-take
unreachable-requires-in_default-take c =
    let p = c.self.inside in
    let a = asked c.args.space c.args.page c.args.want.now in
    let unplaced = rw (← c.self.view_is) at c.requires.unplaced in
    let there = frame_there p a _ c.in-Some.place c.self.invariant unplaced c.in-Some.ensures.placed
    c.index_mut.result.now c.index_mut.ensures.value in
    let gone : None ≡ number_in c.index_mut.result.now = ap number_in c.in_default-take.ensures.value in
    none-some c.in-Some.place.frame (gone ∙ there)

pub add-requires-clause-known : goal.add-requires-clause-known
add-requires-clause-known c =
    let p = c.self.inside in
    let a = asked c.args.space c.args.page c.args.want.now in
    let unplaced = rw (← c.self.view_is) at c.requires.unplaced in
    let known = frame_known p a _ c.in-Some.place c.self.invariant unplaced c.in-Some.ensures.placed in
    omega (arith, known, used_long _ _ _ (state_of p) c.self.invariant)

pub add-requires-clause-unused : goal.add-requires-clause-unused
add-requires-clause-unused c =
    let a = asked c.args.space c.args.page c.args.want.now in
    let unplaced = rw (← c.self.view_is) at c.requires.unplaced in
    nothing_noted c.self.inside a _ c.in-Some.place c.self.invariant unplaced c.in-Some.ensures.placed

pub invariant_of-self : goal.invariant_of-self
invariant_of-self c =
    let a = asked c.args.space c.args.page c.args.want.now in
    let unplaced = rw (← c.self.view_is) at c.requires.unplaced in
    rw (c.take.ensures.after, c.add.ensures)
    (IsPool-taken c.self.inside a _ c.in-Some.place c.self.invariant unplaced c.in-Some.ensures.placed)

pub returns-clause-taken : goal.returns-clause-taken
returns-clause-taken c =
    let p = c.self.inside in
    let unplaced = rw (← c.self.view_is) at c.requires.unplaced in
    let placed = c.in-Some.ensures.placed in
    let a = asked c.args.space c.args.page c.args.want.now in
    let there = frame_there p a _ c.in-Some.place c.self.invariant unplaced placed c.index_mut.result.now c.index_mut.ensures.value in
    let number : Some c.in-Some-take.frame.number ≡ number_in c.index_mut.result.now = ap number_in c.in-Some-take.ensures.value in (
      taking_of p a _ c.in-Some.place c.self.invariant unplaced placed,
      ap (λ st. take_frame st c.args.space c.args.page c.args.want.now) (sym c.self.view_is)
          ∙ take_frame-placed p a _ c.in-Some.place c.self.invariant unplaced placed,
      rw c.add.ensures (state_taken-is p a _ c.in-Some.place c.self.invariant unplaced placed),
      same_Some _ _ (number ∙ there) ∙ placed.same_frame,
    )

pub returns-clause-unused : goal.returns-clause-unused
returns-clause-unused c =
    let p = c.self.inside in
    let a = asked c.args.space c.args.page c.args.want.now in
    let unplaced = rw (← c.self.view_is) at c.requires.unplaced in
    let placed = c.in-Some.ensures.placed in
    let there = frame_there p a _ c.in-Some.place c.self.invariant unplaced placed c.index_mut.result.now c.index_mut.ensures.value in
    let number : Some c.in-Some-take.frame.number ≡ number_in c.index_mut.result.now = ap number_in c.in-Some-take.ensures.value in
    let out = frame_out p a _ c.in-Some.place c.self.invariant unplaced placed in
    let P : FrameState → ℕ → Type 0 = λ st f. (f < length st.free) × (is_some (used_at st f) ≡ false) in
    subst (λ f. P c.args.self.now f) (sym (same_Some _ _ (number ∙ there))) (subst (λ st. P st c.in-Some.place.frame) c.self.view_is out)
