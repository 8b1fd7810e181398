use Rattle.std.proofs.Common.{arith}
use Rattle.store_file.proofs.PageBits.{cleared_word}
use Rattle.store_file.proofs.page_set.clear_bits.Goals as goal

pub loop-at-preserved : goal.loop-at-preserved
loop-at-preserved c =
    cleared_word c.args.words.now c.loop-at.words c.loop-at.at c.args.first c.args.end c.without_bits.result (omega arith)
    (rw (c.saturating_sub.ensures, c.saturating_sub-in-loop-at.ensures) at c.without_bits.ensures) c.loop-at.invariant
