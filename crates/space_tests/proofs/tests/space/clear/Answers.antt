use Rattle.space_core.proofs.ClearedRanges.{fewer_resident}
use Rattle.space_tests.proofs.SpareFrames.{emptied, emptying_one}
use Rattle.space_tests.proofs.tests.space.clear.Goals as goal

pub loop-frame-smaller : goal.loop-frame-smaller
loop-frame-smaller c =
    fewer_resident c.loop-frame.space c.clear_next.new.self c.args.range.first c.args.range.length _ _ c.in-Some.ensures.some

pub loop-frame-preserved : goal.loop-frame-preserved
loop-frame-preserved c =
    emptying_one c.args.space.now c.loop-frame.space c.clear_next.new.self c.args.range.first c.args.range.length _ _ c.loop-frame.invariant c.in-Some.ensures.some

pub returns : goal.returns
returns c =
    emptied c.args.space.now c.loop-frame.space c.clear_next.new.self c.args.range.first c.args.range.length c.loop-frame.invariant c.in_default.ensures.none
