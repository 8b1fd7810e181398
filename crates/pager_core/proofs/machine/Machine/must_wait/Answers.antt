use Rattle.std.proofs.Common.{arith}
use Rattle.pager_core.proofs.ReadyFlights.{space_within}
use Rattle.pager_core.proofs.WholeAdvances.{flies_in, is_other, must_wait}
use Rattle.pager_core.proofs.machine.Machine.must_wait.Goals as goal

pub index-requires : goal.index-requires
index-requires g c =
    let i = c.self.inside in
    let steps = c.requires in
    let flies = flies_in _ c.args.self.now c.args.actor steps.flight c.self.view_is steps.flies in
    let below = space_within _ c.args.actor steps.flight c.self.invariant.0 flies c.args.space steps.under in
    let count = c.self.invariant.2.count in
    omega (arith, below, count, i.keepers.ok.0)

pub returns : goal.returns
returns g c =
    let steps = c.requires in
    let flies = flies_in _ c.args.self.now c.args.actor steps.flight c.self.view_is steps.flies in (
      λ is.
          must_wait _ c.args.self.now c.args.actor c.args.space steps.flight c.self.invariant.0 c.self.view_is flies steps.under
          c.self.inside.keepers.items c.self.invariant.2 c.index.result.now c.index.ensures (c.is_other.ensures.0 is),
      λ waits.
          c.is_other.ensures.1 (is_other _ c.args.self.now c.args.actor c.args.space steps.flight c.self.invariant.0 c.self.view_is
          flies steps.under c.self.inside.keepers.items c.self.invariant.2 c.index.result.now c.index.ensures waits),
    )
