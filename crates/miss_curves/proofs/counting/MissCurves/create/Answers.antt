use Rattle.std.proofs.Common.{◌∙◌, sym}
use Rattle.miss_curves.proofs.FollowedEntries.{StandsFor-new}
use Rattle.miss_curves.proofs.counting.MissCurves.create.Goals as goal

pub returns-clause-starts : goal.returns-clause-starts
returns-clause-starts c = λ g begins.
    let stacks = c.in_ok-create in
    let spaces = c.in_ok-new_spaces in
    let many = c.spaces-spaces.ensures.spaces in
    StandsFor-new c.args.trace.now g _ begins c.sizes.ensures.sizes (stacks.ensures.stands g (begins.spaces ∙ sym many))
    (spaces.ensures.spaces ∙ many) (rw c.frames.ensures.frames at spaces.ensures.new)
