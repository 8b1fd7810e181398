use Rattle.std.proofs.Common.{◌<◌, length, ap, arith}
use Rattle.bit_set.proofs.Levels.{AreLevels-put}
use Rattle.bit_set.proofs.BitSet.put.Goals as goal

pub invariant_of-self : goal.invariant_of-self
invariant_of-self g c =
    let inside : c.args.number < length c.self.inside.bits = omega (arith, ap length c.self.view_is) in
    rw (c.put-word.ensures.bits, c.put-group.ensures.bits, c.put.ensures.bits)
    (AreLevels-put c.self.inside.bits c.self.inside.words c.self.inside.groups c.args.number c.args.is_in c.put-word.result c.put-group.result c.self.invariant inside (rw c.put-word.ensures.bits at c.put-word.ensures.some) (rw c.put-word.ensures.bits at c.put-word.ensures.none) (rw c.put-group.ensures.bits at c.put-group.ensures.some) (rw c.put-group.ensures.bits at c.put-group.ensures.none))
