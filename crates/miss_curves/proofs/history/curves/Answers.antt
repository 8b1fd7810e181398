use Rattle.std.proofs.Common.{◌∙◌, subst}
use Rattle.pager_model.specs.Legal.{entries_in}
use Rattle.miss_curves.specs.Curves.{AreCurves}
use Rattle.miss_curves.proofs.FollowedEntries.{AnswersAlone-legal, Begins-run, EachComes-run}
use Rattle.miss_curves.proofs.history.curves.Goals as goal

pub follow_history-requires-clause-start : goal.follow_history-requires-clause-start
follow_history-requires-clause-start c =
    let run = c.requires.run in
    let history = entries_in c.args.history.now.items in (
      run.0,
      c.in_ok-counting.ensures.starts run.0 (Begins-run c.args.trace.now run.0 history run.1),
      EachComes-run c.args.trace.now run.0 history c.create.ensures.text run.1,
    )

pub returns : goal.returns
returns c = record {
  curves = λ g run.
      let script = c.args.trace.now in
      let history = entries_in c.args.history.now.items in
      let curves = c.curves.result in
      let text = c.create.ensures.text in
      let stands = c.follow_history.ensures.stands g (c.in_ok-counting.ensures.starts g (Begins-run script g history run))
      (EachComes-run script g history text run) in
      subst (λ n. AreCurves n g history curves.tiles.items curves.pages.items)
      (c.follow_history.ensures.places ∙ c.in_ok-counting.ensures.places)
      (c.curves.ensures.curves g history stands (AnswersAlone-legal script g history text.daemon_in run.marks run.legal c.requires.one));
}
