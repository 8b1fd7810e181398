use Rattle.followed_frames.proofs.FullCounts.{full-is_short, is_short-full}
use Rattle.followed_frames.proofs.laws.a_full_state_has_nothing_unused.Goals as goal

pub returns : goal.returns
returns c = λ frames processors st sound. (full-is_short frames processors st sound, is_short-full frames processors st sound)
