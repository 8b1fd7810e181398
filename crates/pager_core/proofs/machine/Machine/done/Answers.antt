use Rattle.std.proofs.Common.{sym, ap, ◌∙◌}
use Rattle.pager_model.specs.Settings.{mark_of}
use Rattle.pager_core.specs.Running.{jobs_at, progress_by_flight}
use Rattle.flight_core.proofs.NextFlights.{made_going}
use Rattle.pager_core.proofs.WholeAdvances.{flies_in, flight_read}
use Rattle.pager_core.proofs.machine.Machine.done.Goals as goal

pub returns-in-Some-clause-made : goal.returns-in-Some-clause-made
returns-in-Some-clause-made g c =
    let i = c.self.inside in
    let f = c.in-Some.flight in
    let here =
    flight_read _ c.args.self.now c.args.actor c.index.result.now f c.self.invariant.0
    c.self.view_is c.requires c.index.ensures c.in-Some.is in
    sym (made_going f (c.self.invariant.0.flights c.args.actor f (flies_in _ c.args.self.now c.args.actor f c.self.view_is here)).going)
    ∙ ap (λ x. (progress_by_flight (mark_of c.args.self.now.given c.args.actor) (jobs_at c.args.self.now.jobs c.args.actor) x).made)
    (sym here)
