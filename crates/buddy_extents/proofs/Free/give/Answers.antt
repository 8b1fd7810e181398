use Rattle.std.proofs.Common.{◌^◌, true, length, ap, ◌∙◌, arith}
use Rattle.std.proofs.Math.Nat.{one-le-pow}
use Rattle.pager_model.specs.FreeBlocks.{with_range}
use Rattle.buddy_extents.proofs.BlockMoves.{length-free_in}
use Rattle.buddy_extents.proofs.Extents.{IsGiven, few_free, give_by_nodes}
use Rattle.buddy_extents.proofs.Free.give.Given.{Over}
use Rattle.buddy_extents.proofs.Free.give.Goals as goal

pub put_in-requires-clause-frame : goal.put_in-requires-clause-frame
put_in-requires-clause-frame g c =
    omega (
      arith,
      c.requires.within,
      ap length c.self.view_is,
      length-free_in c.self.inside.nodes c.self.inside.frames,
      c.self.invariant.most,
      one-le-pow c.args.extent.size 8 (omega arith),
    )

pub overflow_add-self : goal.overflow_add-self
overflow_add-self g c =
    omega (
      arith,
      few_free c.self.inside.nodes c.self.inside.frames c.self.inside.count c.self.invariant,
      c.pages.ensures,
      c.requires.within,
      ap length c.self.view_is,
      length-free_in c.self.inside.nodes c.self.inside.frames,
      c.self.invariant.most,
    )

-- the extent is given, in terms of the nodes
done : (g : Over) (c : goal.After-self-1 g)
    → IsGiven c.self.inside.nodes c.put_in.new.nodes c.self.inside.frames c.self.inside.count c.args.extent.size c.args.extent.first
done g c =
    give_by_nodes c.self.inside.nodes c.put_in.new.nodes c.self.inside.frames c.self.inside.count c.args.extent.size c.args.extent.first c.self.invariant c.requires.aligned
    (omega (arith, c.requires.within, ap length c.self.view_is, length-free_in c.self.inside.nodes c.self.inside.frames))
    (rw (← c.self.view_is) at c.requires.taken)
    (rw c.order_of_size-order.ensures.order at c.put_in.ensures.put)

pub invariant_of-self : goal.invariant_of-self
invariant_of-self g c = rw c.pages.ensures (done g c).is_free

pub returns-clause-given : goal.returns-clause-given
returns-clause-given g c = (done g c).free ∙ ap (λ free. with_range free c.args.extent.first (8 ^ c.args.extent.size) true) c.self.view_is
