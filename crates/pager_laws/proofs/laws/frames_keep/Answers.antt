use Rattle.pager_laws.proofs.KeptFrames.{KeepsFrames-allowed}
use Rattle.pager_laws.proofs.laws.frames_keep.Goals as goal

pub returns : goal.returns
returns c = KeepsFrames-allowed
