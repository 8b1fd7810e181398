use Rattle.std.proofs.Common.{refl, true}
use Rattle.told_space.proofs.FollowedSpaces.{Stands-new}
use Rattle.told_space.proofs.space.ToldSpace.create.Goals as goal

pub returns-clause-stands : goal.returns-clause-stands
returns-clause-stands c =
    Stands-new _ c.args.processors (c.in_ok-space.ensures.follows c.args.sizes true 0) c.new.ensures.empty c.in_ok-images.ensures refl refl
