use Rattle.std.proofs.Common.{◌≡◌, Some, sym, ◌∙◌}
use Rattle.pager_model.specs.Order.{progress_by}
use Rattle.history_check.proofs.JudgedAlone as Judged
use Rattle.history_check.proofs.judge.judge_alone.Goals as goal

pub judge-requires-clause-reached : goal.judge-requires-clause-reached
judge-requires-clause-reached c =
    let at = c.requires.stands in
    Judged.reached at.0 at.1 c.args.frames.now c.args.progress.now c.args.mark c.args.entry.now at.2 c.requires.on_no_space

pub judge-requires-clause-ready : goal.judge-requires-clause-ready
judge-requires-clause-ready c =
    let at = c.requires.stands in
    let goes : progress_by (Some c.args.progress.now) c.args.entry.now ≡ Some c.in-Some.next = sym c.after.ensures.is ∙ c.in-Some.is in
    Judged.is_ready at.0 at.1 c.args.frames.now c.args.progress.now c.args.mark c.args.entry.now at.2 c.requires.on_no_space
    (c.names_its_parts.ensures.names c.if-not-names_its_parts.false) c.in-Some.next goes

pub returns-clause-goes_on : goal.returns-clause-goes_on
returns-clause-goes_on c = λ _ g history at.
    let goes : progress_by (Some c.args.progress.now) c.args.entry.now ≡ Some c.in-Some.next = sym c.after.ensures.is ∙ c.in-Some.is in
    Judged.goes_on g history c.args.frames.now c.args.progress.now c.args.mark c.args.entry.now at c.requires.on_no_space
    (c.names_its_parts.ensures.names c.if-not-names_its_parts.false) c.in-Some.next goes (c.judge.ensures.allowed c.if-not-judge.false)
    c.judge.new.self (c.judge.ensures.after c.if-not-judge.false) c.in-Some.ensures.made
