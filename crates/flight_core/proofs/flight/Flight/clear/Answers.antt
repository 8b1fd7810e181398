use Rattle.std.proofs.Common.{◌∙◌}
use Rattle.flight_core.proofs.ClearSteps.{on_clear, IsClearing-next, fewer_resident, range_cleared}
use Rattle.flight_core.proofs.flight.Flight.clear.Goals as goal

pub loop-page-smaller : goal.loop-page-smaller
loop-page-smaller g c =
    fewer_resident c.loop-page.space c.clear_next.new.self c.args.first c.args.length c.in-Some.page c.in-Some.frame.number c.in-Some.ensures.some

pub loop-page-preserved : goal.loop-page-preserved
loop-page-preserved g c =
    let ready = c.requires.ready in
    IsClearing-next (record {
      space = c.args.space.now;
      frames = c.args.pool.now;
    }) (record { space = c.loop-page.space; frames = c.loop-page.pool })
    (record { space = c.clear_next.new.self; frames = c.give.new.self }) c.args.first c.args.length c.own-own.result c.loop-page.invariant
    (c.own-own.ensures ∙ on_clear c.args.self.now c.args.first c.args.length c.args.space.now ready.0 c.requires.phase ready.1)
    (record {
      page = c.in-Some.page;
      frame = c.in-Some.frame.number;
      clears = c.in-Some.ensures.some;
      given = c.give.ensures.given;
      places = c.give.ensures.places;
    })

pub returns-clause-entry : goal.returns-clause-entry
returns-clause-entry g c = λ st.
    rw c.entry.ensures
    (rw c.end_entry.ensures
    (rw c.own-own.ensures
    (range_cleared c.args.self.now c.args.first c.args.length (record { space = c.args.space.now; frames = c.args.pool.now })
    (record {
      space = c.loop-page.space;
      frames = c.loop-page.pool;
    }) c.clear_next.new.self c.requires.phase c.loop-page.invariant c.in_default.ensures.none st)))
