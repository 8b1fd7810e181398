use Rattle.std.proofs.Common.{refl, arith}
use Rattle.pager_model.specs.Legal.{frames_at}
use Rattle.flight_core.proofs.FlightSteps.{may_follow_here, line_here, stepped_here, passed_here, none_alone, space_alone}
use Rattle.flight_core.proofs.steps.step_alone.Goals as goal

pub add-requires-clause-may : goal.add-requires-clause-may
add-requires-clause-may g c =
    let can = c.requires.can in
    let all = frames_at can.setting can.history in (
      can.setting,
      can.history,
      can.stands_for,
      may_follow_here can.setting can.history can.before c.args.space.now c.args.flight.now can.here c.step_space.new.self
          c.step_space.new.space all all refl c.in-Some.entry (c.in-Some.ensures.entry _ all can.here.ready),
    )

pub add-requires-clause-line : goal.add-requires-clause-line
add-requires-clause-line g c =
    let can = c.requires.can in
    let all = frames_at can.setting can.history in
    line_here can.setting can.history can.before c.args.space.now c.args.flight.now can.here c.step_space.new.self c.step_space.new.space all all refl
    c.in-Some.entry (c.in-Some.ensures.entry _ all can.here.ready)

pub add-requires-clause-takes : goal.add-requires-clause-takes
add-requires-clause-takes g c =
    let can = c.requires.can in
    let one = c.in-Some.ensures.entry _ (frames_at can.setting can.history) can.here.ready in
    c.requires.takes c.in-Some.entry one.entry.processor
    (space_alone can.setting can.history can.before c.args.space.now c.args.flight.now can.here c.step_space.new.self c.step_space.new.space
    c.in-Some.entry (λ frames. c.in-Some.ensures.entry _ frames can.here.ready))
    (none_alone can.setting can.history can.before c.args.space.now c.args.flight.now can.here c.step_space.new.self c.step_space.new.space
    c.in-Some.entry (λ frames. c.in-Some.ensures.entry _ frames can.here.ready))

pub returns-in-Some-clause-stepped : goal.returns-in-Some-clause-stepped
returns-in-Some-clause-stepped g c = λ s h before is here.
    stepped_here s h before c.args.space.now c.args.flight.now here c.step_space.new.self c.step_space.new.space
    (frames_at s h) (frames_at s h) refl c.in-Some.entry (c.in-Some.ensures.entry _ (frames_at s h) here.ready)
    g.L.Log.stands c.add.new.self (c.add.ensures.stands s h is
    (may_follow_here s h before c.args.space.now c.args.flight.now here c.step_space.new.self c.step_space.new.space
    (frames_at s h) (frames_at s h) refl c.in-Some.entry (c.in-Some.ensures.entry _ (frames_at s h) here.ready)))

pub returns-in-Some-clause-room : goal.returns-in-Some-clause-room
returns-in-Some-clause-room g c =
    let can = c.requires.can in
    let one = c.in-Some.ensures.entry _ (frames_at can.setting can.history) can.here.ready in
    let fewer = one.entry.fewer in
    let before = c.requires.room in
    let after = c.add.ensures.room in
    omega (arith, fewer, before, after)

pub returns-in-None-clause-stepped : goal.returns-in-None-clause-stepped
returns-in-None-clause-stepped g c = λ s h before is here.
    passed_here s h before c.args.space.now c.args.flight.now here c.step_space.new.self c.step_space.new.space
    (c.in-None.ensures.none _ here.ready) g.L.Log.stands c.args.log.now (frames_at s h) refl is

pub returns-in-None-clause-room : goal.returns-in-None-clause-room
returns-in-None-clause-room g c =
    let can = c.requires.can in
    let few = (c.in-None.ensures.none _ can.here.ready).no_more in
    let before = c.requires.room in
    omega (arith, few, before)

pub add-requires-clause-room : goal.add-requires-clause-room
add-requires-clause-room g c =
    let can = c.requires.can in
    let fewer = (c.in-Some.ensures.entry _ (frames_at can.setting can.history) can.here.ready).entry.fewer in
    let before = c.requires.room in
    omega (arith, fewer, before)
