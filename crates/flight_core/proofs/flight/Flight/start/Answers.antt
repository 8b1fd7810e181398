use Rattle.flight_core.proofs.AnswerSteps.{start_answered}
use Rattle.flight_core.proofs.EvictSteps.{begin_evicting}
use Rattle.flight_core.proofs.FaultSteps.{begin_failed}
use Rattle.flight_core.proofs.WantOfMemory.{other_reply}
use Rattle.flight_core.proofs.flight.Flight.start.Goals as goal

pub returns-in-Answered-clause-entry : goal.returns-in-Answered-clause-entry
returns-in-Answered-clause-entry g c = λ st frames.
    rw c.answer.ensures.ended (rw c.answer.ensures.entry
    (start_answered c.args.self.now c.in-Answered.answered c.args.space.now c.begin.new.self c.requires.phase
    (rw c.call-call.ensures at c.in-Answered.ensures.begins) st frames))

pub returns-in-NeedsEvict-clause-none : goal.returns-in-NeedsEvict-clause-none
returns-in-NeedsEvict-clause-none g c =
    begin_evicting c.args.self.now c.in-NeedsEvict.page c.args.space.now c.begin.new.self c.requires.phase
    (rw c.call-call.ensures at c.in-NeedsEvict.ensures.begins)

pub returns-in-Failed-clause-entry : goal.returns-in-Failed-clause-entry
returns-in-Failed-clause-entry g c = λ st frames.
    rw c.entry.ensures (rw c.space-own.ensures
    (rw c.call-call.ensures (begin_failed c.args.self.now c.in-Failed.page c.in-Failed.count
    c.args.space.now c.begin.new.self c.requires.phase (rw c.call-call.ensures at c.in-Failed.ensures.begins) st frames)))

pub begin-requires-clause-processor : goal.begin-requires-clause-processor
begin-requires-clause-processor g c κs within = c.requires.image

pub returns-in-Answered-clause-lasting : goal.returns-in-Answered-clause-lasting
returns-in-Answered-clause-lasting g c = λ lasts _.
    rw c.answer.ensures.ended (other_reply c.in-Answered.answered.reply (c.in-Answered.ensures.lasting lasts))
