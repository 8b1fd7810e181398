use Rattle.std.proofs.Common.{◌≡◌, Some, refl, sym, ◌∙◌}
use Rattle.pager_model.specs.FrameStates.{named_space}
use Rattle.pager_model.specs.Legal.{space_at}
use Rattle.pager_model.specs.Order.{progress_by}
use Rattle.told_space.specs.Told.{kept_of}
use Rattle.history_check.proofs.Judged as Judged
use Rattle.history_check.proofs.judge.judge_on_space.Goals as goal

pub allows-requires-clause-owner : goal.allows-requires-clause-owner
allows-requires-clause-owner c =
    let at = c.requires.stands in
    let on = c.requires.on_space in
    let goes : progress_by (Some c.args.progress.now) c.args.entry.now ≡ Some c.in-Some.after = sym c.after.ensures.is ∙ c.in-Some.is in
    λ frame is p placed.
    Judged.owner at.0 at.1 c.args.frames.now (kept_of c.args.space.now) c.args.progress.now c.args.mark c.args.entry.now at.2 on.0 on.1
    c.in-Some.after goes frame is p placed ∙ sym c.victim_page.ensures

pub judge_frames-requires-clause-reached : goal.judge_frames-requires-clause-reached
judge_frames-requires-clause-reached c =
    let at = c.requires.stands in
    let on = c.requires.on_space in
    Judged.reached at.0 at.1 c.args.frames.now (kept_of c.args.space.now) c.args.progress.now c.args.mark c.args.entry.now at.2 on.0 on.1

pub judge_frames-requires-clause-ready : goal.judge_frames-requires-clause-ready
judge_frames-requires-clause-ready c =
    let at = c.requires.stands in
    let on = c.requires.on_space in
    let goes : progress_by (Some c.args.progress.now) c.args.entry.now ≡ Some c.in-Some.after = sym c.after.ensures.is ∙ c.in-Some.is in
    Judged.ready_here at.0 at.1 c.args.frames.now (kept_of c.args.space.now) c.args.progress.now c.args.mark c.args.entry.now at.2 on.0 on.1
    (c.names_its_parts.ensures.names c.if-not-names_its_parts.false) c.in-Some.after goes (c.allows.ensures.allows c.if-not-allows.false)
    (c.allows.ensures.wants c.if-not-allows.false) c.args.space.now refl

pub follow-requires : goal.follow-requires
follow-requires c =
    let at = c.requires.stands in
    let on = c.requires.on_space in
    let goes : progress_by (Some c.args.progress.now) c.args.entry.now ≡ Some c.in-Some.after = sym c.after.ensures.is ∙ c.in-Some.is in
    record {
      next = (
        space_at at.0 at.1 (named_space c.args.entry.now.space),
        Judged.next at.0 at.1 c.args.frames.now (kept_of c.args.space.now) c.args.progress.now c.args.mark c.args.entry.now at.2 on.0 on.1
            (c.names_its_parts.ensures.names c.if-not-names_its_parts.false) c.in-Some.after goes (c.allows.ensures.allows c.if-not-allows.false)
            (c.allows.ensures.wants c.if-not-allows.false) (c.judge_frames.ensures.may c.if-not-judge_frames.false),
      );
    }

pub returns-then-not-allows-clause-may_not : goal.returns-then-not-allows-clause-may_not
returns-then-not-allows-clause-may_not c = λ _ g history at.
    let on = c.requires.on_space in
    Judged.no_space g history c.args.frames.now (kept_of c.args.space.now) c.args.progress.now c.args.mark c.args.entry.now at on.0 on.1
    (c.allows.ensures.refuses c.if-not-allows.true)

pub returns-then-not-branch-clause-may_not : goal.returns-then-not-branch-clause-may_not
returns-then-not-branch-clause-may_not c = λ _ g history at.
    let on = c.requires.on_space in
    let goes : progress_by (Some c.args.progress.now) c.args.entry.now ≡ Some c.in-Some.after = sym c.after.ensures.is ∙ c.in-Some.is in
    let next =
    Judged.next g history c.args.frames.now (kept_of c.args.space.now) c.args.progress.now c.args.mark c.args.entry.now at on.0 on.1
    (c.names_its_parts.ensures.names c.if-not-names_its_parts.false) c.in-Some.after goes (c.allows.ensures.allows c.if-not-allows.false)
    (c.allows.ensures.wants c.if-not-allows.false) (c.judge_frames.ensures.may c.if-not-judge_frames.false) in
    Judged.no_size g history c.args.frames.now (kept_of c.args.space.now) c.args.progress.now c.args.mark c.args.entry.now at on.0 on.1
    (c.in_ok-follow.ensures.refused c.if-not-branch.true (space_at g history (named_space c.args.entry.now.space)) next)

pub returns-clause-goes_on : goal.returns-clause-goes_on
returns-clause-goes_on c = λ _ g history at.
    let on = c.requires.on_space in
    let goes : progress_by (Some c.args.progress.now) c.args.entry.now ≡ Some c.in-Some.after = sym c.after.ensures.is ∙ c.in-Some.is in
    let names = c.names_its_parts.ensures.names c.if-not-names_its_parts.false in
    let allows = c.allows.ensures.allows c.if-not-allows.false in
    let wants = c.allows.ensures.wants c.if-not-allows.false in
    let may = c.judge_frames.ensures.may c.if-not-judge_frames.false in
    let next =
    Judged.next g history c.args.frames.now (kept_of c.args.space.now) c.args.progress.now c.args.mark c.args.entry.now at on.0 on.1 names
    c.in-Some.after goes allows wants may in
    Judged.goes_on g history c.args.frames.now (kept_of c.args.space.now) c.args.progress.now c.args.mark c.args.entry.now at on.0 on.1 names
    c.in-Some.after goes allows wants may
    (c.in_ok-follow.ensures.allowed c.if-not-branch.false (space_at g history (named_space c.args.entry.now.space)) next)
    c.judge_frames.new.frames (c.judge_frames.ensures.after c.if-not-judge_frames.false) c.in-Some.ensures.made

pub returns-clause-kept : goal.returns-clause-kept
returns-clause-kept c = λ _ g history at.
    let on = c.requires.on_space in
    let here = space_at g history (named_space c.args.entry.now.space) in
    let goes : progress_by (Some c.args.progress.now) c.args.entry.now ≡ Some c.in-Some.after = sym c.after.ensures.is ∙ c.in-Some.is in
    let names = c.names_its_parts.ensures.names c.if-not-names_its_parts.false in
    let allows = c.allows.ensures.allows c.if-not-allows.false in
    let wants = c.allows.ensures.wants c.if-not-allows.false in
    let may = c.judge_frames.ensures.may c.if-not-judge_frames.false in
    let next =
    Judged.next g history c.args.frames.now (kept_of c.args.space.now) c.args.progress.now c.args.mark c.args.entry.now at on.0 on.1 names
    c.in-Some.after goes allows wants may in
    Judged.kept_after g history c.args.frames.now (kept_of c.args.space.now) c.args.progress.now c.args.mark c.args.entry.now at on.0 on.1 names
    c.in-Some.after goes allows wants may (c.in_ok-follow.ensures.allowed c.if-not-branch.false here next)
    (kept_of c.follow.new.self) c.in_ok-follow.ensures.images c.in_ok-follow.ensures.frames (c.in_ok-follow.ensures.stands here next)
