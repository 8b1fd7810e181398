use Rattle.std.proofs.Common.{length}
use Rattle.pager_model.specs.Legal.{frames_at}
use Rattle.pager_laws.proofs.FrameCounts.{counts_sum}
use Rattle.pager_laws.proofs.LegalHistories.{IsKept-legal}
use Rattle.pager_laws.proofs.laws.the_roles_are_all_frames.Goals as goal

pub returns : goal.returns
returns c g history legal = counts_sum g.frames (length g.marks) (frames_at g history) (IsKept-legal g history legal).sound
