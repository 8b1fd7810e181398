use Rattle.std.proofs.Common.{refl}
use Rattle.flight_core.proofs.AnswerSteps.{late_answered, late_has_memory}
use Rattle.flight_core.proofs.flight.Flight.answer_late.Goals as goal

pub returns-clause-entry : goal.returns-clause-entry
returns-clause-entry g c = λ st frames.
    rw c.answer.ensures.ended
    (rw c.answer.ensures.entry
    (late_answered c.args.self.now c.in-Answered.answered c.args.space.now c.begin.new.self c.requires.phase
    (rw c.call-call.ensures at c.in-Answered.ensures.begins) st frames))

pub begin-requires-clause-processor : goal.begin-requires-clause-processor
begin-requires-clause-processor g c κs within = c.requires.image

pub returns-clause-row : goal.returns-clause-row
returns-clause-row g c =
    let has = late_has_memory c.args.self.now c.in-Answered.answered c.args.space.now c.begin.new.self c.requires.phase
    c.requires.ready.1.fits.phase (rw c.call-call.ensures at c.in-Answered.ensures.begins) in
    rw (c.answer.ensures.ended, c.answer.ensures.entry, c.requires.phase) (has, refl)
