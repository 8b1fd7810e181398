use Rattle.std.proofs.Common.{Err, refl, ap, ◌∙◌}
use Rattle.std.specs.Result.{result_err}
use Rattle.std.proofs.lemmas.Option.{same_Some}
use Rattle.pager_command.specs.Views.{ends, views}
use Rattle.pager_command.proofs.CheckRuns.{Checks-none, unjudged}
use Rattle.pager_command.proofs.checking.check_history.Goals as goal

pub returns-in-Err : goal.returns-in-Err
returns-in-Err g c =
    let stop = c.stopped.ensures in
    let read = c.in-Err.ensures in
    let told = c.refused-stop.ensures in
    let outcome = c.stopped.result in
    Checks-none (views g.T.Source.left g.T.Source.faults g.K.Sink.taken g.K.Sink.faults g.S.Store.seen)
    (ends c.args.source.now c.args.sink.now) (ends c.read_texts.new.source c.args.sink.now) c.args.stores.items outcome stop.verdict
    (record {
      why = unjudged (g.T.Source.left c.args.source.now) (g.T.Source.faults c.args.source.now) (g.T.Source.faults c.read_texts.new.source)
          outcome.status outcome.refusal c.in-Err.fault (stop.status ∙ told.status) (stop.refusal ∙ told.refusal) read.refused read.complete
          (λ is. read.fault (ap Err is)) (λ other. read.no_other_fault (λ is. other (same_Some _ _ (ap result_err is))));
      none = record { unwritten = refl; no_history = stop.history; same_stores = rw stop.stores refl };
    })
