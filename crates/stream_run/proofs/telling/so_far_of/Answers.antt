use Rattle.std.proofs.Common.{◌≡◌, ap, ◌∙◌, rules}
use Rattle.pager_model.specs.Stores.{setting_over}
use Rattle.flight_core.specs.declared.counted.Counted.{Counted}
use Rattle.stream_run.proofs.ToldCounts.{IsFiled-front, IsSoFar-all}
use Rattle.stream_run.proofs.telling.so_far_of.Goals as goal

pub returns : goal.returns
returns g c = λ script stores calls h after.
    let number : c.from.result ≡ c.calls.result = search rules in
    IsSoFar-all (setting_over script stores) script calls h _ (IsFiled-front script stores calls h c.args.stream.now after)
    (number ∙ c.calls.ensures ∙ after.at.calls_are) (c.summary.ensures script stores calls h after)
    (ap (λ (k : Counted). k.evictions) c.counted-counted.ensures ∙ after.at.tallied.counted.evictions)
    (ap (λ (k : Counted). k.unserved) c.counted-counted.ensures ∙ after.at.tallied.counted.unserved)
