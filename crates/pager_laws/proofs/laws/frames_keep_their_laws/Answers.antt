use Rattle.pager_laws.proofs.KeptFrames.{KeepsFrames-legal}
use Rattle.pager_laws.proofs.laws.frames_keep_their_laws.Goals as goal

pub returns : goal.returns
returns c = KeepsFrames-legal
