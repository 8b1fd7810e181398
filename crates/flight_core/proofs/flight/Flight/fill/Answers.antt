use Rattle.std.proofs.Common.{arith}
use Rattle.flight_core.proofs.AnswerSteps.{fill_answered}
use Rattle.flight_core.proofs.FaultSteps.{fill_failed}
use Rattle.flight_core.proofs.flight.Flight.fill.Goals as goal

pub returns-in-Ok-clause-entry : goal.returns-in-Ok-clause-entry
returns-in-Ok-clause-entry g c = λ st frames.
    rw c.answer.ensures.ended
    (rw c.answer.ensures.entry
    (fill_answered c.args.self.now c.args.page c.args.frame c.finish-answered.result c.args.space.now
    c.finish-answered.new.self c.requires.phase
    (record {
      filled = c.read_in.new.self;
      reads = c.in-Ok.ensures.read;
      finishes = rw c.call-call.ensures at c.finish-answered.ensures;
    }) st frames))

pub returns-in-Err-clause-entry : goal.returns-in-Err-clause-entry
returns-in-Err-clause-entry g c = λ st frames.
    rw c.entry.ensures (rw c.space.ensures
    (rw c.call-call.ensures
    (fill_failed c.args.self.now c.args.page c.args.frame c.in-Err.count c.args.space.now c.read_in.new.self
    c.requires.phase c.in-Err.ensures.failed st frames)))

pub finish-answered-requires-clause-processor : goal.finish-answered-requires-clause-processor
finish-answered-requires-clause-processor g c κs within =
    (let same = c.in-Ok.ensures.read.same.same.processors in let image = c.requires.image in omega (arith, same, image))
