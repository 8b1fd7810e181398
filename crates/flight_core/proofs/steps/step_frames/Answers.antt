use Rattle.flight_core.proofs.Entries.{answers_call}
use Rattle.flight_core.proofs.FlightSteps.{may_follow_frames, stepped_frames, owns, known}
use Rattle.flight_core.proofs.steps.step_frames.Goals as goal

pub step_frames-entry-requires-clause-owns : goal.step_frames-entry-requires-clause-owns
step_frames-entry-requires-clause-owns g c =
    let can = c.requires.can in
    owns can.setting can.history can.before c.args.flight.now can.legal can.flying c.args.pool.now can.frames

pub step_frames-entry-requires-clause-known : goal.step_frames-entry-requires-clause-known
step_frames-entry-requires-clause-known g c =
    let can = c.requires.can in
    known can.setting can.history can.before c.args.flight.now can.legal can.flying c.args.pool.now can.frames

pub add-requires-clause-may : goal.add-requires-clause-may
add-requires-clause-may g c =
    let can = c.requires.can in (
      can.setting,
      can.history,
      can.stands_for,
      may_follow_frames can.setting can.history can.before c.args.flight.now can.legal can.flying c.args.pool.now can.frames
          c.step_frames-entry.new.self c.step_frames-entry.new.pool c.step_frames-entry.result c.step_frames-entry.ensures.entry,
    )

pub add-requires-clause-line : goal.add-requires-clause-line
add-requires-clause-line g c =
    let entry = c.step_frames-entry.ensures.entry in
    answers_call c.args.flight.now c.step_frames-entry.new.self c.args.pool.now c.step_frames-entry.new.pool c.step_frames-entry.result
    entry.entry entry.fits

pub returns-clause-stepped : goal.returns-clause-stepped
returns-clause-stepped g c = λ s h before is legal flying frames.
    stepped_frames s h before c.args.flight.now legal flying c.args.pool.now frames
    c.step_frames-entry.new.self c.step_frames-entry.new.pool c.step_frames-entry.result c.step_frames-entry.ensures.entry
    g.L.Log.stands c.add.new.self (c.add.ensures.stands s h is
    (may_follow_frames s h before c.args.flight.now legal flying c.args.pool.now frames c.step_frames-entry.new.self
    c.step_frames-entry.new.pool c.step_frames-entry.result c.step_frames-entry.ensures.entry))
