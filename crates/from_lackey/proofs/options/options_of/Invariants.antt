-- each turn passes a word, and the frames stay as many as a trace may have
use Rattle.std.proofs.Common.{length}
use Rattle.from_lackey.specs.Frames.{AreFrames}
use Rattle.from_lackey.proofs.options.options_of.Given as goal

abbrev pub invariant-loop-rest : goal.invariant-loop-rest
invariant-loop-rest l = AreFrames l.options.0

abbrev pub decreases-loop-rest : goal.decreases-loop-rest
decreases-loop-rest l = length l.rest
