use Rattle.std.proofs.Common.{◌≡◌, ◌+◌, length, ap, arith}
use Rattle.pager_model.specs.FrameStates.{reserved_count}
use Rattle.frame_pool.specs.PoolState.{state_of}
use Rattle.pager_laws.proofs.FrameCounts.{counts_sum}
use Rattle.frame_pool.proofs.pool.Pool.counts.Goals as goal
use Rattle.frame_pool.proofs.pool.Pool.counts.Goals.{After-len}

-- each frame is in one of the roles that were counted, or is an unused place
all_counted : (c : After-len)
    → c.free_frames-free.result + reserved_count (state_of c.self.inside) + c.count-used.result + c.held_frames-held.result ≡ c.len.result
all_counted c =
    let st = state_of c.self.inside in
    let held = rw c.as_slice.ensures.value at c.held_frames-held.ensures in
    omega (
      arith,
      counts_sum (length st.free) (length st.held) st c.self.invariant.sound,
      c.self.invariant.frames_known,
      c.len.ensures,
      c.free_frames-free.ensures,
      c.count-used.ensures,
      held,
    )

pub overflow_sub-result-2 : goal.overflow_sub-result-2
overflow_sub-result-2 c = omega (arith, all_counted (goal.at.overflow_sub-result-2 c).After-len)

pub overflow_sub-result-3 : goal.overflow_sub-result-3
overflow_sub-result-3 c = omega (arith, all_counted (goal.at.overflow_sub-result-3 c).After-len)

pub returns-clause-all : goal.returns-clause-all
returns-clause-all c =
    let long = ap (λ s. length s.free) c.self.view_is in
    omega (arith, all_counted (goal.at.returns-clause-all c).After-len, c.self.invariant.frames_known, c.len.ensures, long)

pub returns-clause-reserved : goal.returns-clause-reserved
returns-clause-reserved c =
    let reserved = ap reserved_count c.self.view_is in
    omega (arith, all_counted (goal.at.returns-clause-reserved c).After-len, reserved)
