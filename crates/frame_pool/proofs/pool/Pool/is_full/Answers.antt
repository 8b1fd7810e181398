use Rattle.std.proofs.Common.{◌≡◌, ◌+◌, length, sym, subst, arith}
use Rattle.std.proofs.lemmas.Bool.{eqb-true, eq-eqb}
use Rattle.pager_model.specs.FrameStates.{IsFull, used_count, held_count}
use Rattle.frame_pool.specs.PoolState.{state_of}
use Rattle.frame_pool.proofs.FullByCounts.{counts-full, full-by_counts}
use Rattle.frame_pool.proofs.pool.Pool.is_full.Goals as goal

pub returns-then-free_frames-eq0 : goal.returns-then-free_frames-eq0
returns-then-free_frames-eq0 c =
    let st = state_of c.self.inside in
    let held = rw c.as_slice.ensures.value at c.held_frames.ensures in
    let counted : c.count.result + c.held_frames.result ≡ used_count st + held_count st = omega (arith, held, c.count.ensures) in
    let frames : c.len.result ≡ length st.free = omega (arith, c.len.ensures, c.self.invariant.frames_known) in (
      λ same.
          let all = eqb-true (c.count.result + c.held_frames.result) c.len.result same in
          subst IsFull c.self.view_is
          (full-by_counts (length st.free) (length st.held) st c.self.invariant.sound (omega (arith, all, counted, frames))),
      λ full.
          let all = counts-full (length st.free) (length st.held) st c.self.invariant.sound (subst IsFull (sym c.self.view_is) full) in
          eq-eqb (c.count.result + c.held_frames.result) c.len.result (omega (arith, all, counted, frames)),
    )
