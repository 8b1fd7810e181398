use Rattle.std.proofs.Common.{◌≡◌, ℕ, ◌<◌, List, length, sym, ap, subst, ◌∙◌, arith}
use Rattle.arrayvec.specs.ArrayVec.{ArrayVec, with_items}
use Rattle.arrayvec.proofs.ArrayVecLemmas.{items-with_items}
use Rattle.std.specs.List.{AllByRecursion}
use Rattle.pager_model.specs.Schedules.{rotated}
use Rattle.replay_core.specs.Schedules.{flying_in, IsStuck}
use Rattle.replay_core.proofs.ScheduleLemmas.{all_rotated, all_unrotated, flying_known, flying_can, some_flying}
use Rattle.replay_core.proofs.drawn.step_drawn.Goals as goal

pub draw-place-requires : goal.draw-place-requires
draw-place-requires g c =
    let some = some_flying c.args.machine.now c.requires.lawful c.requires.going in
    omega (arith, some, c.len.ensures.value, ap length c.left_in-left.ensures)

-- the list that was rotated, as it is read
read_rotated : (left : ArrayVec ℕ) (place : ℕ) (flying lent rotated_left actors : List ℕ) → left.items ≡ flying → lent ≡ left.items
    → length rotated_left ≡ length lent → rotated_left ≡ rotated place lent → actors ≡ (with_items left rotated_left).items
    → actors ≡ rotated place flying
read_rotated left place flying lent rotated_left actors items lends long is reads =
    reads ∙ items-with_items left rotated_left (long ∙ ap length lends) ∙ is ∙ ap (rotated place) (lends ∙ items)

pub step_first-requires-clause-known : goal.step_first-requires-clause-known
step_first-requires-clause-known g c κs within =
    let run = c.args.machine.now in
    let order = read_rotated c.left_in-left.result _
    (flying_in run) c.as_mut_slice.result.now c.rotate_left.new.self c.as_slice.result.now c.left_in-left.ensures
    c.as_mut_slice.ensures.value c.rotate_left.ensures.len c.rotate_left.ensures.after c.as_slice.ensures.value in
    subst (AllByRecursion (λ x. x < length run.jobs)) (sym order)
    (all_rotated (λ x. x < length run.jobs) _ (flying_in run) (flying_known run))

pub step_first-requires-clause-some : goal.step_first-requires-clause-some
step_first-requires-clause-some g c κs within stuck =
    let run = c.args.machine.now in
    let order = read_rotated c.left_in-left.result _
    (flying_in run) c.as_mut_slice.result.now c.rotate_left.new.self c.as_slice.result.now c.left_in-left.ensures
    c.as_mut_slice.ensures.value c.rotate_left.ensures.len c.rotate_left.ensures.after c.as_slice.ensures.value in
    flying_can run c.requires.lawful c.requires.going (all_unrotated (IsStuck run) _ (flying_in run)
    (subst (AllByRecursion (IsStuck run)) order stuck))
