use Rattle.std.proofs.Common.{Some, None, sym, ◌∙◌, arith}
use Rattle.flight_core.proofs.FlightSteps.{going_on_frames}
use Rattle.pager_locks.specs.declared.logs.Held.{Held}
use Rattle.pager_locks.specs.Logs.{HasGrown, GoesOn}
use Rattle.pager_locks.proofs.Flights.{flown_on}
use Rattle.pager_locks.proofs.GrownLogs.{grown_none, is_there, never_gone, frames_on}
use Rattle.pager_locks.proofs.Meetings.{few_alone, pool_back, pool_frames, pass_frames, legal_frames, way_frames, held_frames}
use Rattle.pager_locks.proofs.steps.step_frames.Goals as goal

pub step_frames-requires-clause-few : goal.step_frames-requires-clause-few
step_frames-requires-clause-few c =
    let met = c.meet-frames.ensures.one_history in
    few_alone c.requires.flying.1 met.0 met.1 c.requires.frames

pub into_parts-frames-requires : goal.into_parts-frames-requires
into_parts-frames-requires c =
    let held : Held = record { journal = c.args.journal; space = None; frames = Some c.meet-frames.result.0; pass = Some c.meet-frames.result.1 } in
    is_there (GoesOn c.meet-frames.result.1) c.step_frames.new.log.pass (c.step_frames.ensures.grown held grown_none).goes_on

pub unreachable-requires : goal.unreachable-requires
unreachable-requires c =
    let held : Held = record { journal = c.args.journal; space = None; frames = Some c.meet-frames.result.0; pass = Some c.meet-frames.result.1 } in
    never_gone c.meet-frames.result.0 c.step_frames.new.log.frames (c.step_frames.ensures.grown held grown_none).same_frames
    (sym c.into_parts-frames.ensures.authors.1 ∙ c.in_default.is)

-- what the log has become
grown : (c : goal.In-Some)
    → HasGrown c.args.journal.now.name c.step_frames.new.log.journal.now.name None c.step_frames.new.log.space
    (Some c.meet-frames.result.0) c.step_frames.new.log.frames (Some c.meet-frames.result.1) c.step_frames.new.log.pass
grown c =
    let held : Held = record { journal = c.args.journal; space = None; frames = Some c.meet-frames.result.0; pass = Some c.meet-frames.result.1 } in
    c.step_frames.ensures.grown held grown_none

pub returns-clause-frames : goal.returns-clause-frames
returns-clause-frames c =
    let j = c.args.journal.now.name in
    let from = c.requires.flying.0 in
    let flying = c.requires.flying.1 in
    let met = c.meet-frames.ensures.one_history in
    let pool_at = c.requires.frames in
    let step = c.step_frames.ensures.stepped j.setting met.0 from.before (held_frames flying met.0 met.1 pool_at c.meet-frames.ensures.same)
    (legal_frames flying met.0 met.1 pool_at) (way_frames flying met.0 met.1 pool_at) (pool_frames flying met.0 met.1 pool_at) in
    pool_back j step.history c.step_frames.new.pool c.in-Some.frames
    (frames_on (grown c) j.setting step.history step.stands_for c.in-Some.frames (sym c.into_parts-frames.ensures.authors.1 ∙ c.in-Some.is)) step.frames

pub returns-clause-flying : goal.returns-clause-flying
returns-clause-flying c = λ from flying.
    let j = c.args.journal.now.name in
    let met = c.meet-frames.ensures.one_history in
    let pool_at = c.requires.frames in
    let step = c.step_frames.ensures.stepped j.setting met.0 from.before (held_frames flying met.0 met.1 pool_at c.meet-frames.ensures.same)
    (legal_frames flying met.0 met.1 pool_at) (way_frames flying met.0 met.1 pool_at) (pool_frames flying met.0 met.1 pool_at) in
    flown_on flying (going_on_frames c.args.flight.now c.requires.needs) c.meet-frames.ensures.same.1 met.0 step.history step.piece
    (pass_frames flying met.0 met.1 pool_at) step.grown (let one = step.one in omega (arith, one)) step.added step.legal step.flying (grown c)
    step.stands_for c.step_frames.ensures.room c.into_parts-frames.ensures.pass

pub returns-clause-left : goal.returns-clause-left
returns-clause-left c =
    let j = c.args.journal.now.name in
    let from = c.requires.flying.0 in
    let flying = c.requires.flying.1 in
    let met = c.meet-frames.ensures.one_history in
    let pool_at = c.requires.frames in
    let step = c.step_frames.ensures.stepped j.setting met.0 from.before (held_frames flying met.0 met.1 pool_at c.meet-frames.ensures.same)
    (legal_frames flying met.0 met.1 pool_at) (way_frames flying met.0 met.1 pool_at) (pool_frames flying met.0 met.1 pool_at) in
    step.keeps_none
