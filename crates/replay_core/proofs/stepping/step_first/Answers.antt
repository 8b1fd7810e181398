use Rattle.std.proofs.Common.{◌+◌, ◌<◌, length, take, get_or, sym, subst, ◌∙◌, arith}
use Rattle.std.specs.List.{AllByRecursion}
use Rattle.pager_core.specs.Running.{Running}
use Rattle.replay_core.specs.Schedules.{IsStuck}
use Rattle.replay_core.proofs.ScheduleLemmas.{all_at, all_take_more, stuck_by, free_by, FirstStepped-at, stuck_past}
use Rattle.replay_core.proofs.stepping.step_first.Goals as goal

pub advance-requires-after_bounds : goal.advance-requires-after_bounds
advance-requires-after_bounds g c κs within =
    let actors = c.args.actors.now in
    subst (λ (r : Running). get_or actors c.loop-actor.actor-index 0 < length r.jobs) (sym c.loop-actor.invariant.0)
    (all_at (λ x. x < length c.args.machine.now.jobs) actors c.loop-actor.actor-index 0 c.requires.known c.loop-actor-test.true)

pub returns-in-Stepped : goal.returns-in-Stepped
returns-in-Stepped g c =
    let now = c.loop-actor.machine in
    let advance = c.advance.ensures in
    FirstStepped-at c.args.machine.now now c.advance.new.self c.args.actors.now c.loop-actor.actor-index c.loop-actor.invariant.0 c.loop-actor-test.true c.loop-actor.invariant.1
    (free_by now (get_or c.args.actors.now c.loop-actor.actor-index 0) c.advance.result advance.not_ended advance.not_waiting c.in-Stepped.is)
    (advance.stepped c.in-Stepped.is) advance.same_jobs advance.same_unused advance.lawful

pub loop-actor-preserved : goal.loop-actor-preserved
loop-actor-preserved g c =
    let actors = c.args.actors.now in
    let i = c.loop-actor.actor-index in
    let passed = stuck_by c.loop-actor.machine c.advance.new.self
    (get_or actors i 0) c.advance.result c.advance.ensures.ended c.advance.ensures.waits c.in_default.not-Stepped in (
      passed.0 ∙ c.loop-actor.invariant.0,
      subst (λ r. AllByRecursion (IsStuck r) (take (i + 1) actors)) (sym passed.0)
          (all_take_more (IsStuck c.loop-actor.machine) actors i 0 c.loop-actor-test.true c.loop-actor.invariant.1 passed.1),
    )

pub returns : goal.returns
returns g c =
    absurd (c.requires.some
    (stuck_past c.args.machine.now c.loop-actor.machine c.args.actors.now c.loop-actor.actor-index c.loop-actor.invariant.0
    (omega arith) c.loop-actor.invariant.1))
