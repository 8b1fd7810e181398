use Rattle.std.proofs.Common.{arith}
use Rattle.store_file.proofs.PageBits.{cleared_bit}
use Rattle.store_file.proofs.page_set.without_bits.Goals as goal

pub returns : goal.returns
returns c k inside =
    cleared_bit c.args.word c.args.first c.args.end c.bits_from-2.result c.bits_from.result k inside (omega arith)
    (c.bits_from.ensures k inside) (c.bits_from-2.ensures k inside)
