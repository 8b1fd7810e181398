use Rattle.std.proofs.Common.{◌≤◌, List, length, ap, sym, subst, ◌∙◌, arith}
use Rattle.pager_model.specs.declared.entry.Entry.{Entry}
use Rattle.pager_model.specs.Stores.{setting_over}
use Rattle.space_core.specs.Standing.{Kept}
use Rattle.flight_core.specs.Counting.{IsCounted, most_in_history}
use Rattle.flight_core.specs.declared.counted.Counted.{Counted}
use Rattle.pager_core.specs.RunParts.{AreAtRest}
use Rattle.stream_core.specs.Streaming.{IsAt, IsStanding}
use Rattle.stream_core.proofs.stream.Stream.counts.Goals as goal

few : (counted : Counted) (h : List Entry) → IsCounted counted h → length h ≤ most_in_history
few counted h is = (let all = is.left in omega (arith, all))

pub counts_of-requires-clause-rest : goal.counts_of-requires-clause-rest
counts_of-requires-clause-rest g c κs within =
    let can = subst IsStanding (sym c.self.view_is) c.requires in (
      setting_over can.script can.stores,
      can.history,
      subst (λ (l : List Kept). AreAtRest (setting_over can.script can.stores) can.history l c.self.inside.pool) (sym c.as_slice.ensures.value)
          can.at.rest,
      few c.self.inside.tally.counted can.history can.at.tallied.counted,
    )

pub returns : goal.returns
returns g c = λ script stores calls h is.
    let at = subst (IsAt script stores calls h) (sym c.self.view_is) is in
    c.counts_of.ensures (setting_over script stores) h
    (subst (λ (l : List Kept). AreAtRest (setting_over script stores) h l c.self.inside.pool) (sym c.as_slice.ensures.value) at.rest)
    (few c.self.inside.tally.counted h at.tallied.counted)
    (ap (λ (k : Counted). k.hits) c.counted-counted.ensures ∙ at.tallied.counted.hits)
    (ap (λ (k : Counted). k.misses) c.counted-counted.ensures ∙ at.tallied.counted.misses)
