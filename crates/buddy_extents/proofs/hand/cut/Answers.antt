use Rattle.std.proofs.Common.{◌≡◌, ◌+◌, ◌-◌, true, length, ap, subst, ◌∙◌, arith}
use Rattle.std.proofs.Math.ListN.{length-set}
use Rattle.buddy_extents.specs.Blocks.{InHand}
use Rattle.buddy_extents.proofs.BlockMoves.{cut}
use Rattle.buddy_extents.proofs.hand.cut.Goals as goal

pub loop-order-preserved : goal.loop-order-preserved
loop-order-preserved g c =
    let nodes = c.loop-order.nodes in
    let next = c.loop-order.order - 1 in
    let back : c.loop-order.order ≡ next + 1 = omega arith in
    record {
      nodes = ap length c.insert.ensures.set ∙ (length-set nodes c.node.result true ∙ c.loop-order.invariant.nodes);
      part = omega arith;
      small = omega arith;
      cost = omega arith;
      in_hand = λ frames free most hand. rw (c.insert.ensures.set, c.node.ensures.node)
          (cut nodes frames next c.args.frame c.buddy.result free most
          (subst (λ k. InHand nodes frames k c.args.frame free) back
          (c.loop-order.invariant.in_hand frames free most hand)) c.buddy.ensures);
    }

pub returns-clause-in_hand : goal.returns-clause-in_hand
returns-clause-in_hand g c frames free most hand =
    let last : c.loop-order.order ≡ c.args.part = omega arith in
    subst (λ k. InHand c.loop-order.nodes frames k c.args.frame free) last (c.loop-order.invariant.in_hand frames free most hand)
