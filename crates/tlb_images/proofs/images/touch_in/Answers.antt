use Rattle.std.proofs.Common.{◌%◌, sym, ◌∙◌, arith}
use Rattle.tlb_images.specs.Counted.{remainders}
use Rattle.tlb_images.proofs.CountedLemmas.{absent-uncounted}
use Rattle.tlb_images.proofs.images.touch_in.Goals as goal
use Rattle.tlb_images.proofs.images.touch_in.Goals.{else-begun-remainder-gt0-via-then-begun-remainder-gt0+else-bring_to_front, else-begun-remainder-gt0-via-else-begun-remainder-gt0}

pub put-requires-clause-absent : goal.put-requires-clause-absent
put-requires-clause-absent c = elim c.else-begun-remainder-gt0.branch [
  | else-begun-remainder-gt0-via-then-begun-remainder-gt0+else-bring_to_front w ↦
      rw (w.image-is ∙ w.bring_to_front.ensures.absent w.if-bring_to_front.false)
      (sym w.bring_to_front.ensures.stands ∙ w.if-bring_to_front.false)
  | else-begun-remainder-gt0-via-else-begun-remainder-gt0 w ↦
      rw w.image-is (absent-uncounted c.args.tile c.args.image.now (omega (
        arith,
        c.requires.counted.each (c.args.tile.extent.first % remainders) (omega arith),
        rw c.remainder.ensures at w.if-begun-remainder-gt0.false,
      )))
]

pub returns-clause-hit : goal.returns-clause-hit
returns-clause-hit c = elim c.else-begun-remainder-gt0.branch [
  | else-begun-remainder-gt0-via-then-begun-remainder-gt0+else-bring_to_front w ↦
      sym (sym w.bring_to_front.ensures.stands ∙ w.if-bring_to_front.false)
  | else-begun-remainder-gt0-via-else-begun-remainder-gt0 w ↦
      sym (absent-uncounted c.args.tile c.args.image.now
      (omega (
        arith,
        c.requires.counted.each (c.args.tile.extent.first % remainders) (omega arith),
        rw c.remainder.ensures at w.if-begun-remainder-gt0.false,
      )))
]
