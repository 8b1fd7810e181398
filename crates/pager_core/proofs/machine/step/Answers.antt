use Rattle.std.proofs.Common.{sym, subst, ◌∙◌}
use Rattle.flight_core.specs.Flying.{in_space, since}
use Rattle.flight_core.specs.Logged.{Stepped}
use Rattle.pager_core.proofs.SilentSteps.{needs_space, needs_both}
use Rattle.flight_core.specs.Rows.{row_of}
use Rattle.pager_core.proofs.machine.step.Goals as goal

pub step_alone-requires-clause-can : goal.step_alone-requires-clause-can
step_alone-requires-clause-can g c κs within =
    let can = c.requires.can in
    record { setting = can.setting; history = can.history; before = can.before; stands_for = can.stands_for; here = can.here }

pub step_alone-requires-clause-needs : goal.step_alone-requires-clause-needs
step_alone-requires-clause-needs g c κs within = needs_space (row_of c.args.flight.now).needs c.in-Space.field-0 c.args.space.now.number
    (sym c.needs.ensures ∙ c.in-Space.is) c.requires.can.here.ready.under

pub step_both-requires-clause-needs : goal.step_both-requires-clause-needs
step_both-requires-clause-needs g c κs within = needs_both (row_of c.args.flight.now).needs c.in-Both.field-0 c.args.space.now.number
    (sym c.needs.ensures ∙ c.in-Both.is) c.requires.can.here.ready.under

pub returns-in-Space-clause-stepped : goal.returns-in-Space-clause-stepped
returns-in-Space-clause-stepped g c = λ s h before is here frames.
    subst (Stepped g.L.Log.stands (since s h before) c.step_alone.new.log c.step_alone.result (in_space c.args.flight.now c.args.space.now)
    (in_space c.step_alone.new.flight c.step_alone.new.space)) (sym frames) (c.step_alone.ensures.stepped s h before is here)

pub returns-in-Both-clause-lasting : goal.returns-in-Both-clause-lasting
returns-in-Both-clause-lasting g c = λ _. c.step_both.ensures.never_lacks
