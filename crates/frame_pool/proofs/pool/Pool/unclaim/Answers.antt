use Rattle.frame_pool.specs.PoolState.{state_of}
use Rattle.frame_pool.proofs.PoolFields.{IsPool-unclaimed}
use Rattle.frame_pool.proofs.pool.Pool.unclaim.Goals as goal

pub invariant_of-self : goal.invariant_of-self
invariant_of-self c =
    rw c.unclaim-frame.ensures.unclaimed (IsPool-unclaimed _ _ _ (state_of c.self.inside) c.unclaim-frame.result c.self.invariant)
