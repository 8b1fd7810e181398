use Rattle.std.proofs.Common.{false, ap, subst, ◌∙◌, arith}
use Rattle.pager_model.specs.SizeSets.{SizeSet}
use Rattle.pager_model.specs.SpaceStates.{empty_state}
use Rattle.space_core.specs.Standing.{StandsFor}
use Rattle.space_core.specs.Rooms.{Capacity}
use Rattle.space_tests.proofs.SpareFrames.{lowest_spare}
use Rattle.space_tests.proofs.tests.space.begun.Goals as goal

pub returns-clause-spare : goal.returns-clause-spare
returns-clause-spare c =
    let made = c.over.ensures.made in
    let room = c.in_ok-room.ensures in
    lowest_spare c.all.result c.over.result c.in_ok-spare.spare.items 64 c.in_ok-spare.ensures
    (omega (arith, made.1, ap (λ (r : Capacity). r.frames) room)) (made.2 ∙ ap (λ (r : Capacity). r.processors) room) made.4
    (subst (λ (z : SizeSet). StandsFor c.over.result (empty_state z false c.over.result.store.faults))
    (ap (λ (r : Capacity). r.sizes) room) (c.over.ensures.stands false (λ e. cc)))
