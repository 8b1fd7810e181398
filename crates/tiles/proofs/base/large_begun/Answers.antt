use Rattle.std.proofs.Common.{ap, arith}
use Rattle.std.specs.Int.{div_ceil}
use Rattle.pager_model.proofs.ExtentLemmas.{eight_pos}
use Rattle.tiles.proofs.Begun.{multiples_grow}
use Rattle.tiles.proofs.base.large_begun.Goals as goal

pub div_ceil-requires : goal.div_ceil-requires
div_ceil-requires c = omega (arith, c.pages.ensures, eight_pos c.args.size)

pub div_ceil-requires-2 : goal.div_ceil-requires-2
div_ceil-requires-2 c = omega (arith, c.pages-2.ensures, eight_pos c.args.size)

pub overflow_sub-result : goal.overflow_sub-result
overflow_sub-result c =
    omega (
      arith,
      c.div_ceil.ensures,
      c.div_ceil-2.ensures,
      ap (div_ceil c.args.end) c.pages.ensures,
      ap (div_ceil c.args.from) c.pages-2.ensures,
      multiples_grow c.args.size c.args.from c.args.end (omega (arith, c.level.ensures)) c.requires.range,
    )
