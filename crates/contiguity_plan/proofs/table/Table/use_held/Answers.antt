use Rattle.std.proofs.Common.{◌∙◌}
use Rattle.pager_model.specs.FrameStates.{dropped}
use Rattle.pager_laws.proofs.StateSoundness.{IsSound-dropped, frame_of-dropped}
use Rattle.contiguity_plan.proofs.table.Table.use_held.Goals as goal

pub returns-clause-right : goal.returns-clause-right
returns-clause-right c = λ frames processors st sound right none takes.
    let p = c.args.processor in
    c.in_ok-take.ensures.right frames processors (dropped st p) (IsSound-dropped frames processors st p sound)
    (c.drop_held.ensures.right st right)
    (frame_of-dropped frames processors st p c.args.page.space c.args.page.page sound ∙ none) takes
