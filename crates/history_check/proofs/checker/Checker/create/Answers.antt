use Rattle.std.proofs.Common.{map, ap, subst, ◌∙◌}
use Rattle.std.specs.List.{All}
use Rattle.pager_model.specs.FrameStates.{start_frames}
use Rattle.pager_model.specs.Order.{at_rest}
use Rattle.history_check.specs.Standing.{IsNewSpace}
use Rattle.history_check.proofs.KeptHistory.{StandsAfter-new}
use Rattle.history_check.proofs.checker.Checker.create.Goals as goal

pub returns : goal.returns
returns c =
    let script = c.args.trace.now in
    let sizes = c.sizes-sizes.ensures.sizes in
    let frames = c.frames-frames.ensures.frames in
    let actors = c.actors-actors.ensures.actors in
    let spaces = c.in_ok-new_spaces.field-0.items in
    StandsAfter-new script _ c.frames-frames.ensures.text c.in_ok-marks.ensures.marks
    (c.in_ok-create.ensures
    ∙ ap (λ z. start_frames z c.frames-frames.result c.actors-actors.result) sizes
    ∙ ap (λ n. start_frames script.sizes n c.actors-actors.result) frames
    ∙ ap (start_frames script.sizes script.frames) actors)
    (c.in_ok-new_spaces.ensures.known ∙ c.spaces.ensures.spaces)
    (subst (λ n. All (IsNewSpace script.sizes script.frames n) spaces) actors
    (subst (λ n. All (IsNewSpace script.sizes n c.actors-actors.result) spaces) frames
    (subst (λ z. All (IsNewSpace z c.frames-frames.result c.actors-actors.result) spaces) sizes c.in_ok-new_spaces.ensures.new)))
    (c.in_ok-new_progress.ensures ∙ ap (map (λ mark. at_rest mark 0)) (c.deref.ensures.value ∙ c.in_ok-marks.ensures.marks))
