use Rattle.flight_core.proofs.EvictSteps.{page_evicted}
use Rattle.flight_core.proofs.flight.Flight.evict.Goals as goal

pub returns-clause-entry : goal.returns-clause-entry
returns-clause-entry g c = λ st.
    rw c.answer-entry.ensures.ended
    (rw c.answer-entry.ensures.entry
    (rw c.end_entry.ensures
    (rw c.give.ensures.given
    (rw c.own.ensures
    (page_evicted c.args.self.now c.args.page c.evict-frame.result.0.number c.evict-frame.result.1 (record {
      space = c.args.space.now;
      frames = c.args.pool.now;
    }) c.evict-frame.new.self
    c.requires.phase c.requires.agree c.evict-frame.ensures st)))))
