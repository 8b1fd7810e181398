use Rattle.std.proofs.Common.{sym, ◌∙◌}
use Rattle.flight_core.proofs.ConcludedCalls.{discard_answered, unmap_answered, unwire_answered, wire_answered}
use Rattle.flight_core.proofs.flight.Flight.conclude.Goals as goal

pub returns-in-Unmap-clause-entry : goal.returns-in-Unmap-clause-entry
returns-in-Unmap-clause-entry g c = λ st frames.
    let phase = c.requires.phase in
    rw c.answer.ensures.ended
    (rw c.answer.ensures.entry
    (unmap_answered c.args.self.now phase.0 phase.1 c.unmap-answered.result c.args.space.now c.unmap-answered.new.self
    c.in-Unmap.space c.in-Unmap.page (sym c.call.ensures ∙ c.in-Unmap.is) c.unmap-answered.ensures phase.2 st frames))

pub returns-in-Discard-clause-entry : goal.returns-in-Discard-clause-entry
returns-in-Discard-clause-entry g c = λ st frames.
    let phase = c.requires.phase in
    rw c.answer-in-Discard.ensures.ended
    (rw c.answer-in-Discard.ensures.entry
    (discard_answered c.args.self.now phase.0 phase.1 c.discard-answered.result c.args.space.now c.discard-answered.new.self
    c.in-Discard.space c.in-Discard.page c.in-Discard.length (sym c.call.ensures ∙ c.in-Discard.is) c.discard-answered.ensures phase.2 st frames))

pub returns-in-Wire-clause-entry : goal.returns-in-Wire-clause-entry
returns-in-Wire-clause-entry g c = λ st frames.
    let phase = c.requires.phase in
    rw c.answer-in-Wire.ensures.ended
    (rw c.answer-in-Wire.ensures.entry
    (wire_answered c.args.self.now phase.0 phase.1 c.pin-answered.result c.args.space.now c.pin-answered.new.self
    c.in-Wire.space c.in-Wire.page (sym c.call.ensures ∙ c.in-Wire.is) c.pin-answered.ensures phase.2 st frames))

pub returns-in-Unwire-clause-entry : goal.returns-in-Unwire-clause-entry
returns-in-Unwire-clause-entry g c = λ st frames.
    let phase = c.requires.phase in
    rw c.answer-in-Unwire.ensures.ended
    (rw c.answer-in-Unwire.ensures.entry
    (unwire_answered c.args.self.now phase.0 phase.1 c.pin-answered-in-Unwire.result c.args.space.now c.pin-answered-in-Unwire.new.self
    c.in-Unwire.space c.in-Unwire.page (sym c.call.ensures ∙ c.in-Unwire.is) c.pin-answered-in-Unwire.ensures phase.2 st frames))
