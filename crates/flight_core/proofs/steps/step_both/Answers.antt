use Rattle.std.proofs.Common.{arith, ◌∙◌}
use Rattle.flight_core.proofs.FlightSteps.{may_follow_here, line_here, stepped_here, passed_here, agreed, owns, known}
use Rattle.flight_core.proofs.steps.step_both.Goals as goal

pub step_both-requires-clause-agree : goal.step_both-requires-clause-agree
step_both-requires-clause-agree g c κs within =
    let can = c.requires.can in
    agreed can.setting can.history can.before c.args.flight.now can.here.legal can.here.flying c.args.pool.now can.frames
    c.args.space.now can.here.space can.here.ready

pub step_both-requires-clause-owns : goal.step_both-requires-clause-owns
step_both-requires-clause-owns g c κs within =
    let can = c.requires.can in
    owns can.setting can.history can.before c.args.flight.now can.here.legal can.here.flying c.args.pool.now can.frames

pub step_both-requires-clause-known : goal.step_both-requires-clause-known
step_both-requires-clause-known g c κs within =
    let can = c.requires.can in
    known can.setting can.history can.before c.args.flight.now can.here.legal can.here.flying c.args.pool.now can.frames

pub add-requires-clause-may : goal.add-requires-clause-may
add-requires-clause-may g c =
    let can = c.requires.can in (
      can.setting,
      can.history,
      can.stands_for,
      may_follow_here can.setting can.history can.before c.args.space.now c.args.flight.now can.here c.step_both.new.self
          c.step_both.new.space c.args.pool.now c.step_both.new.pool can.frames c.in-Some.entry (c.in-Some.ensures.entry _ can.here.ready),
    )

pub add-requires-clause-line : goal.add-requires-clause-line
add-requires-clause-line g c =
    let can = c.requires.can in
    line_here can.setting can.history can.before c.args.space.now c.args.flight.now can.here c.step_both.new.self c.step_both.new.space
    c.args.pool.now c.step_both.new.pool can.frames c.in-Some.entry (c.in-Some.ensures.entry _ can.here.ready)

pub add-requires-clause-takes : goal.add-requires-clause-takes
add-requires-clause-takes g c =
    let one = c.in-Some.ensures.entry _ c.requires.can.here.ready in
    c.requires.takes c.in-Some.entry one.entry.processor one.space.own_space

pub add-requires-clause-room : goal.add-requires-clause-room
add-requires-clause-room g c =
    let fewer = (c.in-Some.ensures.entry _ c.requires.can.here.ready).entry.fewer in
    let before = c.requires.room in
    omega (arith, fewer, before)

pub returns-in-Some-clause-stepped : goal.returns-in-Some-clause-stepped
returns-in-Some-clause-stepped g c = λ s h before is here frames.
    stepped_here s h before c.args.space.now c.args.flight.now here c.step_both.new.self c.step_both.new.space
    c.args.pool.now c.step_both.new.pool frames c.in-Some.entry (c.in-Some.ensures.entry _ here.ready)
    g.L.Log.stands c.add.new.self (c.add.ensures.stands s h is
    (may_follow_here s h before c.args.space.now c.args.flight.now here c.step_both.new.self c.step_both.new.space
    c.args.pool.now c.step_both.new.pool frames c.in-Some.entry (c.in-Some.ensures.entry _ here.ready)))

pub returns-in-Some-clause-room : goal.returns-in-Some-clause-room
returns-in-Some-clause-room g c =
    let fewer = (c.in-Some.ensures.entry _ c.requires.can.here.ready).entry.fewer in
    let before = c.requires.room in
    let after = c.add.ensures.room in
    omega (arith, fewer, before, after)

pub returns-in-None-clause-stepped : goal.returns-in-None-clause-stepped
returns-in-None-clause-stepped g c = λ s h before is here frames.
    let none = c.in-None.ensures.none in
    passed_here s h before c.args.space.now c.args.flight.now here c.step_both.new.self c.step_both.new.space
    (none.1 _ here.ready) g.L.Log.stands c.args.log.now c.step_both.new.pool (none.0 ∙ frames) is

pub returns-in-None-clause-room : goal.returns-in-None-clause-room
returns-in-None-clause-room g c =
    let few = (c.in-None.ensures.none.1 _ c.requires.can.here.ready).no_more in
    let before = c.requires.room in
    omega (arith, few, before)
