use Rattle.std.proofs.Common.{◌≡◌, drop, length, map, subst, sym, ap, ◌∙◌}
use Rattle.pager_model.specs.Counts.{counts}
use Rattle.pager_model.specs.Legal.{entries_in}
use Rattle.pager_model.specs.Stores.{StoresEnd}
use Rattle.flight_core.specs.Lacking.{NoneLacked}
use Rattle.pager_core.specs.Running.{Running, HasEnded, IsWholeRun}
use Rattle.pager_core.proofs.WholeRuns.{IsWholeRun-ended, AreAtRest-ended, few_entries}
use Rattle.pager_core.proofs.machine.Machine.finish.Goals as goal

pub of-requires-clause-rest : goal.of-requires-clause-rest
of-requires-clause-rest g c κs within = (
  _,
  AreAtRest-ended _ c.self.inside.spaces.items c.self.inside.pool _ c.self.invariant.0
      (subst HasEnded (sym c.self.view_is) c.requires),
)

pub of-requires-clause-few : goal.of-requires-clause-few
of-requires-clause-few g c κs within = (
  few_entries _ c.self.inside.spaces.items c.self.inside.pool _ c.self.invariant.0 (subst HasEnded (sym c.self.view_is) c.requires),
  c.self.invariant.0.few_spaces,
)

pub returns-clause-run : goal.returns-clause-run
returns-clause-run g c =
    let i = c.self.inside in
    subst (λ (m : Running). IsWholeRun m.given m.jobs m.history) c.self.view_is
    (IsWholeRun-ended _ i.spaces.items i.pool _ c.self.invariant.0 (subst HasEnded (sym c.self.view_is) c.requires))

pub returns-clause-stores : goal.returns-clause-stores
returns-clause-stores g c =
    let i = c.self.inside in
    subst (λ (m : Running). StoresEnd m.given m.history (map g.S.Store.seen c.of.result.stores.items)) c.self.view_is
    (c.of.ensures.ends i.setting (AreAtRest-ended _ i.spaces.items i.pool _ c.self.invariant.0
    (subst HasEnded (sym c.self.view_is) c.requires)))

pub returns-clause-unused : goal.returns-clause-unused
returns-clause-unused g c =
    subst (λ (m : Running). drop (length m.given.told) (map g.S.Store.seen c.of.result.stores.items) ≡ m.unused) c.self.view_is
    (ap (λ n. drop n (map g.S.Store.seen c.of.result.stores.items)) c.self.invariant.0.told ∙ c.of.ensures.unused)

pub returns-clause-summary : goal.returns-clause-summary
returns-clause-summary g c =
    let i = c.self.inside in
    subst (λ (m : Running). c.of.result.summary ≡ counts m.given (entries_in m.history)) c.self.view_is
    (c.of.ensures.summary i.setting (AreAtRest-ended _ i.spaces.items i.pool _ c.self.invariant.0
    (subst HasEnded (sym c.self.view_is) c.requires)))

pub returns-clause-lasting : goal.returns-clause-lasting
returns-clause-lasting g c = λ lasts.
    subst (λ (m : Running). NoneLacked (entries_in m.history)) c.self.view_is (c.self.invariant.3 lasts).answers
