-- No frame can be had exactly where no frame is free and no place is unused.
use Rattle.std.proofs.Common.{◌≡◌, ℕ, true, arith}
use Rattle.std.proofs.lemmas.Bool.{ltb-true, lt-ltb}
use Rattle.pager_model.specs.FrameStates.{FrameState, IsFull, is_short}
use Rattle.pager_laws.specs.Laid.{IsSound}
use Rattle.pager_laws.proofs.FrameCounts.{counts_sum}
use Rattle.frame_pool.proofs.FullByCounts.{full-by_counts, counts-full}

module _ (frames processors : ℕ) (st : FrameState) (sound : IsSound frames processors st) where
  pub full-is_short : is_short st 1 ≡ true → IsFull st
  full-is_short is = full-by_counts frames processors st sound
      (let less = ltb-true _ _ is in omega (arith, less, counts_sum frames processors st sound))

  pub is_short-full : IsFull st → is_short st 1 ≡ true
  is_short-full is = lt-ltb _ _
      (let all = counts-full frames processors st sound is in omega (arith, all, counts_sum frames processors st sound))
