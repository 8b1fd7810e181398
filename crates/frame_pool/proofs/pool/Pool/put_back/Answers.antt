use Rattle.std.proofs.Common.{sym, ap, subst, ◌∙◌, arith}
use Rattle.std.specs.Option.{IsSome}
use Rattle.pager_laws.specs.Laid.{IsIn}
use Rattle.pager_model.specs.FrameStates.{dropped_in}
use Rattle.pager_model.specs.Layouts.{Layout}
use Rattle.frame_pool.specs.PoolState.{state_of}
use Rattle.frame_pool.proofs.PoolFields.{held_known, layout_of-pool, read_held, IsPool-dropped}
use Rattle.frame_pool.proofs.pool.Pool.put_back.Goals as goal

pub index_mut-requires : goal.index_mut-requires
index_mut-requires c =
    let p = c.self.inside in
    let holds = rw (← c.self.view_is) at c.requires in
    omega (arith, held_known (state_of p) c.args.processor holds, p.held.ok.0)

pub unwrap-frame-requires : goal.unwrap-frame-requires
unwrap-frame-requires c =
    let holds = rw (← c.self.view_is) at c.requires in
    let read = read_held (state_of c.self.inside) c.args.processor c.index_mut.result.now holds c.index_mut.ensures.value in
    subst IsSome (read ∙ sym c.take.ensures.value) holds

pub put_back-requires-clause-known : goal.put_back-requires-clause-known
put_back-requires-clause-known c =
    let st = state_of c.self.inside in
    let holds = read_held st c.args.processor c.index_mut.result.now (rw (← c.self.view_is) at c.requires) c.index_mut.ensures.value
    ∙ sym c.take.ensures.value ∙ c.unwrap-frame.ensures in
    (c.self.invariant.sound.held_apart c.args.processor c.unwrap-frame.result holds).0

pub put_back-requires-clause-out : goal.put_back-requires-clause-out
put_back-requires-clause-out c =
    let st = state_of c.self.inside in
    let holds = read_held st c.args.processor c.index_mut.result.now (rw (← c.self.view_is) at c.requires) c.index_mut.ensures.value
    ∙ sym c.take.ensures.value ∙ c.unwrap-frame.ensures in
    subst (λ (l : Layout). IsIn l c.unwrap-frame.result → ⊥) (layout_of-pool c.self.inside c.self.invariant)
    (c.self.invariant.sound.held_apart c.args.processor c.unwrap-frame.result holds).1

pub invariant_of-self : goal.invariant_of-self
invariant_of-self c =
    let st = state_of c.self.inside in
    let holds = read_held st c.args.processor c.index_mut.result.now (rw (← c.self.view_is) at c.requires) c.index_mut.ensures.value
    ∙ sym c.take.ensures.value ∙ c.unwrap-frame.ensures in
    rw (c.put_back.ensures, c.take.ensures.after)
    (IsPool-dropped _ _ _ st c.args.processor c.unwrap-frame.result c.self.invariant holds)

pub returns-clause-frame : goal.returns-clause-frame
returns-clause-frame c =
    let st = state_of c.self.inside in
    let holds = read_held st c.args.processor c.index_mut.result.now (rw (← c.self.view_is) at c.requires) c.index_mut.ensures.value
    ∙ sym c.take.ensures.value ∙ c.unwrap-frame.ensures in
    rw (← c.self.view_is) holds

pub returns-clause-dropped : goal.returns-clause-dropped
returns-clause-dropped c =
    let st = state_of c.self.inside in
    let holds = read_held st c.args.processor c.index_mut.result.now (rw (← c.self.view_is) at c.requires) c.index_mut.ensures.value
    ∙ sym c.take.ensures.value ∙ c.unwrap-frame.ensures in
    rw (c.put_back.ensures, c.take.ensures.after, ← c.self.view_is) (sym (ap (dropped_in st c.args.processor) holds))
